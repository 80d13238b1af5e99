-- Names that are taken, kept as the keys of a set.
use Rattle.std.proofs.Common.{◌≡◌, ℕ, List, [], ◌∷◌, ◌++◌, map, Bool, false, refl, sym, ap, ◌∙◌, ◌||◌, Bor}
use Rattle.std.specs.Ordering.{is_eq, nat_cmp, match_ordering}
use Rattle.std.specs.Cmp.Lexicographic.{slice_cmp}
use Rattle.std.specs.List.{list_any}
use Rattle.std.specs.BTreeSet.{insert_key}
use Rattle.std.specs.declared.cmp.Ordering.TheVariants.{Less, Equal, Greater}
use Rattle.std.proofs.Math.Bool.{or_assoc, or_comm, or_self_left}
use Rattle.std.proofs.lemmas.List.Folds.{list_any-append}
use Rattle.std.proofs.lemmas.Map.Lookups.{exact_bytes}
use Rattle.std.proofs.lemmas.Map.Text.{is_eq-slice_cmp}
use Rattle.yp_base.specs.Types.{same_text, is_among}
use Rattle.yp_nacm_text.specs.NameSets.{AddsName}

-- ---- the set

-- the texts of keys
abbrev pub texts : List (Bor (List ℕ)) → List (List ℕ)
texts keys = map (λ (key : Bor (List ℕ)). key.now) keys

-- a key is found where its text is among those of the keys
pub found_text : (text : List ℕ) (keys : List (Bor (List ℕ))) → list_any (λ (key : Bor (List ℕ)). is_eq (slice_cmp nat_cmp text key.now)) keys ≡ is_among text (texts keys)
found_text text [] = refl
found_text text (key ∷ keys) = λ i. is_eq-slice_cmp text key.now i || found_text text keys i

-- one key more has its text among them
pub text_put : (text : List ℕ) (key : Bor (List ℕ)) (keys : List (Bor (List ℕ)))
    → is_among text (texts (insert_key (λ (a b : Bor (List ℕ)). slice_cmp nat_cmp a.now b.now) keys key)) ≡ (same_text text key.now || is_among text (texts keys))
text_put text key [] = refl
text_put text key (first ∷ keys) =
    let at = same_text text key.now in
    let here = same_text text first.now in
    let later = is_among text (texts keys) in
    elim (slice_cmp nat_cmp key.now first.now) as (λ o. slice_cmp nat_cmp key.now first.now ≡ o
    → is_among text (texts (match_ordering o (key ∷ first ∷ keys) (first ∷ keys) (first ∷ insert_key (λ (a b : Bor (List ℕ)). slice_cmp nat_cmp a.now b.now) keys key))) ≡ (at || (here || later))) [
      | Less ↦ λ e. refl
      | Equal ↦ λ e. sym (or_self_left here later) ∙ ap (λ one. same_text text one || (here || later)) (sym (exact_bytes key.now first.now e))
      | Greater ↦ λ e. ap (λ b. here || b) (text_put text key keys) ∙ sym (or_assoc here at later) ∙ ap (λ b. b || later) (or_comm here at) ∙ or_assoc at here later
    ] refl

-- ---- the names of what was read

-- the names are those of what was read so far, and so they are with one more
pub named_more : {X : Type 0} (name_of : X → List ℕ) (before after : List X) (x : X) (old new : List (List ℕ)) → after ≡ before ++ x ∷ [] → AddsName old new (name_of x)
    → ((text : List ℕ) → is_among text old ≡ list_any (λ y. same_text text (name_of y)) before) → (text : List ℕ) → is_among text new ≡ list_any (λ y. same_text text (name_of y)) after
named_more {X} name_of before after x old new grown added names text =
    let test : X → Bool = λ y. same_text text (name_of y) in
    added text
    ∙ ap (λ b. test x || b) (names text)
    ∙ or_comm (test x) (list_any test before)
    ∙ ap (λ b. list_any test before || b) (or_comm false (test x))
    ∙ sym (ap (list_any test) grown ∙ list_any-append test before (x ∷ []))
