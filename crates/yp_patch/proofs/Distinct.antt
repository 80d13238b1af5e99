-- Texts that are told apart by those seen so far.
use Rattle.std.proofs.Common.{◌≡◌, ℕ, ◌+◌, ◌<◌, List, [], ◌∷◌, ◌++◌, length, take, drop, get_or, refl, sym, ap, ◌∙◌, Bool, true, false, ◌||◌, Bor}
use Rattle.std.specs.List.{list_any}
use Rattle.std.specs.Ordering.{is_eq, nat_cmp, match_ordering}
use Rattle.std.specs.BTreeSet.{insert_key}
use Rattle.std.specs.declared.cmp.Ordering.TheVariants.{Less, Equal, Greater}
use Rattle.std.proofs.lemmas.Cmp.{alike_right}
use Rattle.std.specs.Cmp.Lexicographic.{slice_cmp, texts_ties, nat_list_cmp_total}
use Rattle.std.proofs.Math.Bool.{or_self_left}
use Rattle.std.proofs.lemmas.List.{take_more, map-append, take-append-drop}
use Rattle.yp_base.specs.declared.txt.Txt.{Txt}
use Rattle.yp_base.specs.Types.{is_among, are_distinct}
use Rattle.yp_patch.specs.declared.patch.Edit.{Edit}
use Rattle.yp_patch.specs.Shapes.{ids_of}
use Rattle.yp_base.specs.PathLaws.{or_turned, texts_turned}
use Rattle.yp_base.specs.DistinctLaws.{among_more, distinct_more, not_distinct, never_again}

-- ---- edits

-- whether a text is one of those seen
abbrev pub is_seen : List ℕ → List (Bor Txt) → Bool
is_seen text seen = list_any (λ (key : Bor Txt). is_eq (slice_cmp nat_cmp text key.now)) seen

ids_more : (edits : List Edit) (i : ℕ) (edit : Edit) → i < length edits → edit ≡ get_or edits i edit → ids_of (take (i + 1) edits) ≡ ids_of (take i edits) ++ edit.id ∷ []
ids_more edits i edit here is =
    ap ids_of (take_more edits i edit here ∙ ap (λ (e : Edit). take i edits ++ e ∷ []) (sym is)) ∙ map-append (λ (e : Edit). e.id) (take i edits) (edit ∷ [])

-- one more text is seen
pub seen_more : (text : List ℕ) (seen : List (Bor Txt)) (key : Bor Txt) → is_seen text (insert_key (λ (one other : Bor Txt). slice_cmp nat_cmp one.now other.now) seen key) ≡ (is_eq (slice_cmp nat_cmp text key.now) || is_seen text seen)
seen_more text [] key = refl
seen_more text (other ∷ seen) key =
    let p : Bor Txt → Bool = λ (k : Bor Txt). is_eq (slice_cmp nat_cmp text k.now) in
    elim (slice_cmp nat_cmp key.now other.now) as (λ o. slice_cmp nat_cmp key.now other.now ≡ o → is_seen text (match_ordering o (key ∷ other ∷ seen) (other ∷ seen) (other ∷ insert_key (λ (one two : Bor Txt). slice_cmp nat_cmp one.now two.now) seen key)) ≡ (p key || (p other || is_seen text seen))) [
      | Less ↦ λ e. refl
      | Equal ↦ λ e. sym (or_self_left (p other) (is_seen text seen)) ∙ ap (λ b. b || (p other || is_seen text seen)) (ap is_eq (sym (alike_right nat_list_cmp_total key.now other.now text e)))
      | Greater ↦ λ e. ap (λ b. p other || b) (seen_more text seen key) ∙ or_turned (p other) (p key) (is_seen text seen)
    ] refl

-- one more edit is seen
pub edit_seen : (edits : List Edit) (i : ℕ) (edit : Edit) (text : List ℕ) (was is : Bool) → i < length edits → edit ≡ get_or edits i edit → is ≡ (is_eq (slice_cmp nat_cmp text edit.id) || was) → was ≡ is_among text (ids_of (take i edits)) → is ≡ is_among text (ids_of (take (i + 1) edits))
edit_seen edits i edit text was is here at grown so_far =
    grown
    ∙ (λ j. sym (texts_turned edit.id text ∙ texts_ties text edit.id) j || so_far j)
    ∙ sym (among_more text edit.id (ids_of (take i edits)))
    ∙ ap (is_among text) (sym (ids_more edits i edit here at))

-- its id wasn't seen
pub still_distinct : (edits : List Edit) (i : ℕ) (edit : Edit) → i < length edits → edit ≡ get_or edits i edit → is_among edit.id (ids_of (take i edits)) ≡ false → are_distinct (ids_of (take i edits)) ≡ true → are_distinct (ids_of (take (i + 1) edits)) ≡ true
still_distinct edits i edit here at fresh distinct = ap are_distinct (ids_more edits i edit here at) ∙ distinct_more edit.id (ids_of (take i edits)) distinct fresh

-- its id was seen
pub seen_twice : (edits : List Edit) (i : ℕ) (edit : Edit) → i < length edits → edit ≡ get_or edits i edit → is_among edit.id (ids_of (take i edits)) ≡ true → are_distinct (ids_of edits) ≡ false
seen_twice edits i edit here at among =
    ap (λ (all : List Edit). are_distinct (ids_of all)) (sym (take-append-drop (i + 1) edits))
    ∙ ap are_distinct (map-append (λ (e : Edit). e.id) (take (i + 1) edits) (drop (i + 1) edits) ∙ ap (λ (ids : List (List ℕ)). ids ++ ids_of (drop (i + 1) edits)) (ids_more edits i edit here at))
    ∙ never_again (ids_of (take i edits) ++ edit.id ∷ []) (ids_of (drop (i + 1) edits)) (not_distinct edit.id (ids_of (take i edits)) among)
