-- Texts of which no two are the same, from the first on.
use Rattle.std.proofs.Common.{◌≡◌, ℕ, ◌+◌, ◌<◌, ◌||◌, List, [], ◌∷◌, ◌++◌, length, get_or, take, drop, Bool, true, false, not, refl, sym, ap, ◌∙◌, append_assoc, take-append-drop}
use Rattle.std.specs.Ordering.{is_eq, nat_cmp, match_ordering}
use Rattle.std.specs.Cmp.Lexicographic.{slice_cmp}
use Rattle.std.specs.List.{list_any}
use Rattle.std.specs.BTreeSet.{insert_key}
use Rattle.std.specs.declared.cmp.Ordering.TheVariants.{Less, Equal, Greater}
use Rattle.std.proofs.lemmas.List.{take_more}
use Rattle.std.proofs.lemmas.Map.Lookups.{exact_bytes}
use Rattle.std.proofs.lemmas.Map.Text.{is_eq-slice_cmp}
use denote.Ref.{Bor}
use Rattle.yp_base.specs.DistinctLaws.{among_more, distinct_more, not_distinct, never_again}
use Rattle.yp_base.specs.PathLaws.{texts_turned, or_turned}
use Rattle.yp_base.specs.Types.{same_text, is_among, are_distinct}

-- texts of which one that is among those before it comes next
twice_in : (texts : List (List ℕ)) (key : List ℕ) (rest : List (List ℕ)) → is_among key texts ≡ true → are_distinct (texts ++ key ∷ rest) ≡ false
twice_in texts key rest among = sym (ap are_distinct (append_assoc texts (key ∷ []) rest)) ∙ never_again (texts ++ key ∷ []) rest (not_distinct key texts among)

split_at : {X : Type 0} (xs : List X) (i : ℕ) (d : X) → i < length xs → take i xs ++ get_or xs i d ∷ drop (i + 1) xs ≡ xs
split_at xs i d less =
    sym (append_assoc (take i xs) (get_or xs i d ∷ []) (drop (i + 1) xs)) ∙ ap (λ ys. ys ++ drop (i + 1) xs) (sym (take_more xs i d less)) ∙ take-append-drop (i + 1) xs

-- whether a text is among the keys of a set
abbrev pub has_text : List ℕ → List (Bor (List ℕ)) → Bool
has_text q keys = list_any (λ k. is_eq (slice_cmp nat_cmp q k.now)) keys

pub has_more : (q : List ℕ) (keys : List (Bor (List ℕ))) (k : Bor (List ℕ)) → has_text q (insert_key (λ x y. slice_cmp nat_cmp x.now y.now) keys k) ≡ (same_text q k.now || has_text q keys)
has_more q [] k = ap (λ t. t || false) (is_eq-slice_cmp q k.now)
has_more q (x ∷ xs) k =
    elim (slice_cmp nat_cmp k.now x.now) as (λ r. slice_cmp nat_cmp k.now x.now ≡ r
    → has_text q (match_ordering r (k ∷ x ∷ xs) (x ∷ xs) (x ∷ insert_key (λ x y. slice_cmp nat_cmp x.now y.now) xs k)) ≡ (same_text q k.now || (is_eq (slice_cmp nat_cmp q x.now) || has_text q xs))) [
      | Less ↦ λ is. ap (λ t. t || (is_eq (slice_cmp nat_cmp q x.now) || has_text q xs)) (is_eq-slice_cmp q k.now)
      | Equal ↦ λ is.
          let texts : k.now ≡ x.now = exact_bytes k.now x.now is in
          sym (ap (λ t. t || (is_eq (slice_cmp nat_cmp q x.now) || has_text q xs)) (ap (same_text q) texts ∙ sym (is_eq-slice_cmp q x.now)) ∙ again (is_eq (slice_cmp nat_cmp q x.now)) (has_text q xs))
      | Greater ↦ λ is. ap (λ t. is_eq (slice_cmp nat_cmp q x.now) || t) (has_more q xs k) ∙ or_turned (is_eq (slice_cmp nat_cmp q x.now)) (same_text q k.now) (has_text q xs)
    ] refl
  where
    again : (s t : Bool) → (s || (s || t)) ≡ (s || t)
    again true t = refl
    again false t = refl

-- a text that stood before
pub seen_twice : (texts : List (List ℕ)) (i : ℕ) (x key : List ℕ) (keys : List (Bor (List ℕ))) (added : Bool) → i < length texts → x ≡ get_or texts i x → key ≡ x
    → ((q : List ℕ) → has_text q keys ≡ is_among q (take i texts)) → added ≡ not (has_text key keys) → added ≡ false → are_distinct texts ≡ false
seen_twice texts i x key keys added less is same seen says fails =
    let had : has_text key keys ≡ true = held (has_text key keys) (sym says ∙ fails) in
    let there : is_among (get_or texts i x) (take i texts) ≡ true = ap (λ q. is_among q (take i texts)) (sym is ∙ sym same) ∙ sym (seen key) ∙ had in
    sym (ap are_distinct (split_at texts i x less)) ∙ twice_in (take i texts) (get_or texts i x) (drop (i + 1) texts) there
  where
    held : (t : Bool) → not t ≡ false → t ≡ true
    held true h = refl
    held false h = cc

-- one that did not
pub distinct_next : (texts : List (List ℕ)) (i : ℕ) (x key : List ℕ) (keys : List (Bor (List ℕ))) (added : Bool) → i < length texts → x ≡ get_or texts i x → key ≡ x
    → ((q : List ℕ) → has_text q keys ≡ is_among q (take i texts)) → added ≡ not (has_text key keys) → added ≡ true → are_distinct (take i texts) ≡ true → are_distinct (take (i + 1) texts) ≡ true
distinct_next texts i x key keys added less is same seen says holds all =
    let had : has_text key keys ≡ false = held (has_text key keys) (sym says ∙ holds) in
    let apart : is_among (get_or texts i x) (take i texts) ≡ false = ap (λ q. is_among q (take i texts)) (sym is ∙ sym same) ∙ sym (seen key) ∙ had in
    ap are_distinct (take_more texts i x less) ∙ distinct_more (get_or texts i x) (take i texts) all apart
  where
    held : (t : Bool) → not t ≡ true → t ≡ false
    held true h = cc
    held false h = refl

pub seen_next : (texts : List (List ℕ)) (i : ℕ) (x : List ℕ) (key : Bor (List ℕ)) (keys after : List (Bor (List ℕ))) → i < length texts → x ≡ get_or texts i x → key.now ≡ x
    → after ≡ insert_key (λ x y. slice_cmp nat_cmp x.now y.now) keys key → ((q : List ℕ) → has_text q keys ≡ is_among q (take i texts)) → (q : List ℕ) → has_text q after ≡ is_among q (take (i + 1) texts)
seen_next texts i x key keys after less is same put seen q =
    ap (has_text q) put ∙ has_more q keys key ∙ ap (λ t. same_text q key.now || t) (seen q) ∙ ap (λ y. same_text q y || is_among q (take i texts)) (same ∙ is)
    ∙ sym (ap (is_among q) (take_more texts i x less) ∙ (among_more q (get_or texts i x) (take i texts) ∙ ap (λ t. t || is_among q (take i texts)) (texts_turned (get_or texts i x) q)))
