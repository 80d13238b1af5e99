-- Texts that are told apart by those seen so far.
use Rattle.std.proofs.Common.{◌≡◌, ℕ, ◌+◌, ◌<◌, List, [], ◌∷◌, ◌++◌, length, take, drop, get_or, refl, sym, ap, ◌∙◌, Bool, true, false, ◌||◌, Bor}
use Rattle.std.specs.List.{list_any}
use Rattle.std.specs.Ordering.{is_eq, nat_cmp, match_ordering}
use Rattle.std.specs.BTreeSet.{insert_key}
use Rattle.std.specs.declared.cmp.Ordering.TheVariants.{Less, Equal, Greater}
use Rattle.std.proofs.lemmas.Cmp.{alike_right}
use Rattle.std.specs.Cmp.Lexicographic.{slice_cmp, texts_ties, nat_list_cmp_total}
use Rattle.std.proofs.Math.Bool.{or_self_left}
use Rattle.std.proofs.lemmas.List.{take_more, take-append-drop}
use Rattle.yp_base.specs.Types.{is_among, are_distinct}
use Rattle.yp_decode.specs.declared.edits.EditBody.{EditBody as FoundEdit}
use Rattle.yp_decode.specs.Bodies.{ids_of}
use Rattle.yp_decode.specs.Readings.{seen_edits}
use Rattle.yp_base.specs.PathLaws.{or_turned, texts_turned}
use Rattle.yp_base.specs.DistinctLaws.{among_more, distinct_more, not_distinct, never_again}

-- ---- edits that were found

-- whether a text is one of those seen
abbrev pub is_seen : List ℕ → List (Bor (List ℕ)) → Bool
is_seen text seen = list_any (λ (key : Bor (List ℕ)). is_eq (slice_cmp nat_cmp text key.now)) seen

-- the ids of edits that were found
abbrev pub found_ids : List FoundEdit → List (List ℕ)
found_ids edits = ids_of (seen_edits edits)

joined : (one two : List FoundEdit) → found_ids (one ++ two) ≡ found_ids one ++ found_ids two
joined [] two = refl
joined (edit ∷ one) two = ap (λ (ids : List (List ℕ)). edit.id.now ∷ ids) (joined one two)

ids_more : (edits : List FoundEdit) (i : ℕ) (edit : FoundEdit) → i < length edits → edit ≡ get_or edits i edit → found_ids (take (i + 1) edits) ≡ found_ids (take i edits) ++ edit.id.now ∷ []
ids_more edits i edit here is =
    ap found_ids (take_more edits i edit here ∙ ap (λ (e : FoundEdit). take i edits ++ e ∷ []) (sym is)) ∙ joined (take i edits) (edit ∷ [])

-- one more text is seen
pub seen_more : (text : List ℕ) (seen : List (Bor (List ℕ))) (key : Bor (List ℕ)) → is_seen text (insert_key (λ (one other : Bor (List ℕ)). slice_cmp nat_cmp one.now other.now) seen key) ≡ (is_eq (slice_cmp nat_cmp text key.now) || is_seen text seen)
seen_more text [] key = refl
seen_more text (other ∷ seen) key =
    let p : Bor (List ℕ) → Bool = λ (k : Bor (List ℕ)). is_eq (slice_cmp nat_cmp text k.now) in
    elim (slice_cmp nat_cmp key.now other.now) as (λ o. slice_cmp nat_cmp key.now other.now ≡ o → is_seen text (match_ordering o (key ∷ other ∷ seen) (other ∷ seen) (other ∷ insert_key (λ (one two : Bor (List ℕ)). slice_cmp nat_cmp one.now two.now) seen key)) ≡ (p key || (p other || is_seen text seen))) [
      | Less ↦ λ e. refl
      | Equal ↦ λ e. sym (or_self_left (p other) (is_seen text seen)) ∙ ap (λ b. b || (p other || is_seen text seen)) (ap is_eq (sym (alike_right nat_list_cmp_total key.now other.now text e)))
      | Greater ↦ λ e. ap (λ b. p other || b) (seen_more text seen key) ∙ or_turned (p other) (p key) (is_seen text seen)
    ] refl

-- one more edit is seen
pub edit_seen : (edits : List FoundEdit) (i : ℕ) (edit : FoundEdit) (text : List ℕ) (was is : Bool) → i < length edits → edit ≡ get_or edits i edit → is ≡ (is_eq (slice_cmp nat_cmp text edit.id.now) || was) → was ≡ is_among text (found_ids (take i edits)) → is ≡ is_among text (found_ids (take (i + 1) edits))
edit_seen edits i edit text was is here at grown so_far =
    grown
    ∙ (λ j. sym (texts_turned edit.id.now text ∙ texts_ties text edit.id.now) j || so_far j)
    ∙ sym (among_more text edit.id.now (found_ids (take i edits)))
    ∙ ap (is_among text) (sym (ids_more edits i edit here at))

-- its id wasn't seen
pub still_distinct : (edits : List FoundEdit) (i : ℕ) (edit : FoundEdit) → i < length edits → edit ≡ get_or edits i edit → is_among edit.id.now (found_ids (take i edits)) ≡ false → are_distinct (found_ids (take i edits)) ≡ true → are_distinct (found_ids (take (i + 1) edits)) ≡ true
still_distinct edits i edit here at fresh distinct = ap are_distinct (ids_more edits i edit here at) ∙ distinct_more edit.id.now (found_ids (take i edits)) distinct fresh

-- its id was seen
pub seen_twice : (edits : List FoundEdit) (i : ℕ) (edit : FoundEdit) → i < length edits → edit ≡ get_or edits i edit → is_among edit.id.now (found_ids (take i edits)) ≡ true → are_distinct (found_ids edits) ≡ false
seen_twice edits i edit here at among =
    ap (λ (all : List FoundEdit). are_distinct (found_ids all)) (sym (take-append-drop (i + 1) edits))
    ∙ ap are_distinct (joined (take (i + 1) edits) (drop (i + 1) edits) ∙ ap (λ (ids : List (List ℕ)). ids ++ found_ids (drop (i + 1) edits)) (ids_more edits i edit here at))
    ∙ never_again (found_ids (take i edits) ++ edit.id.now ∷ []) (found_ids (drop (i + 1) edits)) (not_distinct edit.id.now (found_ids (take i edits)) among)
