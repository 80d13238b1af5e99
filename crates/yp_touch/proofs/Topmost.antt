-- The topmost of paths in order, found one after another: of what comes past a root, those at or below it come first.
use Rattle.std.proofs.Common.{◌≡◌, Bool, true, false, true≢false, not, ◌&&◌, ◌||◌, List, [], ◌∷◌, Option, Some, None, refl, sym, ap, ◌∙◌, cond}
use Rattle.std.specs.Prelude.{filter}
use Rattle.std.specs.List.{list_any}
use Rattle.std.specs.List.Sorted.{IsStrictlySortedBy}
use Rattle.std.specs.Ordering.{ordering_reverse, is_gt}
use Rattle.std.specs.declared.cmp.Ordering.TheVariants.{Less, Greater}
use Rattle.yp_base.specs.declared.path.Seg.{Seg}
use Rattle.yp_base.specs.Order.{segment_cmp, path_cmp, is_within}
use Rattle.yp_base.specs.OrderLaws.{segments_total, paths_total}
use Rattle.yp_base.specs.Prefixes.{fronts_together, front_not_after}
use Rattle.yp_base.specs.PathLaws.{within_itself, IsBefore, covered_below}
use Rattle.yp_base.specs.Paths.{is_above, topmost as roots_of, is_covered}

-- what comes before a path isn't at or below it
pub outside : (path other : List Seg) → path_cmp path other ≡ Greater → is_within path other ≡ false
outside path other after =
    elim (is_within path other) as (λ w. is_within path other ≡ w → w ≡ false) [
      | true ↦ λ within. absurd (true≢false (ap is_gt (sym after) ∙ front_not_after segment_cmp path other within))
      | false ↦ λ within. refl
    ] refl

-- a path is neither at nor below one that comes after it
pub apart : (path later : List Seg) → path_cmp path later ≡ Less → is_within later path ≡ false
apart path later less = outside later path (paths_total.antisymm later path ∙ ap ordering_reverse less)

above_within : (path later : List Seg) → path_cmp path later ≡ Less → is_above path later ≡ is_within path later
above_within path later less = ap (λ b. is_within path later && not b) (apart path later less) ∙ and_true (is_within path later)
  where
    and_true : (b : Bool) → (b && true) ≡ b
    and_true true = refl
    and_true false = refl

above_itself : (path : List Seg) → is_above path path ≡ false
above_itself path = ap (λ b. b && not b) (within_itself path)

none_above : (path : List Seg) (paths : List (List Seg)) → IsBefore path paths → list_any (λ above. is_above above path) paths ≡ false
none_above path [] all = refl
none_above path (later ∷ paths) all = ap (λ b. (b && not (is_within path later)) || list_any (λ above. is_above above path) paths) (apart path later all.0) ∙ none_above path paths all.1

-- tests that say one thing of all paths past one keep the same of them
same_kept : (f g : List Seg → Bool) (path : List Seg) (paths : List (List Seg)) → IsBefore path paths → ((later : List Seg) → path_cmp path later ≡ Less → f later ≡ g later) → filter f paths ≡ filter g paths
same_kept f g path [] all same = refl
same_kept f g path (later ∷ paths) all same = λ i. cond (same later all.0 i) (later ∷ same_kept f g path paths all.1 same i) (same_kept f g path paths all.1 same i)

-- the root found last, where there is one, comes before these paths
abbrev pub IsPast : Option (List Seg) → List (List Seg) → Type 0
IsPast None paths = Unit {0}
IsPast (Some root) paths = IsBefore root paths

past_rest : (root : Option (List Seg)) (path : List Seg) (paths : List (List Seg)) → IsPast root (path ∷ paths) → IsPast root paths
past_rest None path paths past = tt
past_rest (Some root) path paths past = past.1

-- what comes past a path that isn't at or below the root isn't either
never_again : (root : Option (List Seg)) (path later : List Seg) (paths : List (List Seg)) → IsPast root (path ∷ paths) → is_covered root path ≡ false → path_cmp path later ≡ Less → is_covered root later ≡ false
never_again None path later paths past free less = refl
never_again (Some root) path later paths past free less = fronts_together segments_total root path later (ap is_gt past.0) free (ap is_gt less)

-- the topmost of what follows a root
abbrev pub tops : Option (List Seg) → List (List Seg) → List (List Seg)
tops root [] = []
tops root (path ∷ paths) = cond (is_covered root path) (tops root paths) (path ∷ tops (Some path) paths)

-- whether a path is neither at or below the root nor below one of some paths
abbrev is_free : Option (List Seg) → List (List Seg) → List Seg → Bool
is_free root paths path = not (is_covered root path) && not (list_any (λ above. is_above above path) paths)

-- a path that the root covers hides nothing that the root doesn't
passed_over : (root : Option (List Seg)) (path later : List Seg) (paths : List (List Seg)) → is_covered root path ≡ true → is_free root (path ∷ paths) later ≡ is_free root paths later
passed_over root path later paths covered =
    elim (is_within path later) as (λ w. is_within path later ≡ w
    → (not (is_covered root later) && not ((w && not (is_within later path)) || list_any (λ above. is_above above later) paths)) ≡ is_free root paths later) [
      | true ↦ λ h. (λ i. not (covered_below root path later covered h i) && not (not (is_within later path) || list_any (λ above. is_above above later) paths))
          ∙ sym (ap (λ b. not b && not (list_any (λ above. is_above above later) paths)) (covered_below root path later covered h))
      | false ↦ λ h. refl
    ] refl

-- a root hides what is at or below it
taken_up : (root : Option (List Seg)) (path later : List Seg) (paths : List (List Seg)) → is_covered root later ≡ false → is_above path later ≡ is_within path later → is_free root (path ∷ paths) later ≡ is_free (Some path) paths later
taken_up root path later paths free above =
    (λ i. not (free i) && not (above i || list_any (λ above. is_above above later) paths))
    ∙ not_or (is_within path later) (list_any (λ above. is_above above later) paths)
  where
    not_or : (a b : Bool) → not (a || b) ≡ (not a && not b)
    not_or true b = refl
    not_or false b = refl

pub tops_are : (root : Option (List Seg)) (paths : List (List Seg)) → IsPast root paths → IsStrictlySortedBy path_cmp paths → filter (is_free root paths) paths ≡ tops root paths
unfolding IsStrictlySortedBy
tops_are root [] past sorted = refl
tops_are root (path ∷ paths) past sorted =
    elim (is_covered root path) as (λ b. is_covered root path ≡ b
    → cond (not b && not (is_above path path || list_any (λ above. is_above above path) paths)) (path ∷ filter (is_free root (path ∷ paths)) paths) (filter (is_free root (path ∷ paths)) paths)
    ≡ cond b (tops root paths) (path ∷ tops (Some path) paths)) [
      | true ↦ λ h.
          same_kept (is_free root (path ∷ paths)) (is_free root paths) path paths sorted.0 (λ later less. passed_over root path later paths h)
          ∙ tops_are root paths (past_rest root path paths past) sorted.1
      | false ↦ λ h.
          (λ i. cond (not (above_itself path i || none_above path paths sorted.0 i)) (path ∷ filter (is_free root (path ∷ paths)) paths) (filter (is_free root (path ∷ paths)) paths))
          ∙ ap (λ (xs : List (List Seg)). path ∷ xs)
          (same_kept (is_free root (path ∷ paths)) (is_free (Some path) paths) path paths sorted.0 (λ later less. taken_up root path later paths (never_again root path later paths past h less) (above_within path later less))
          ∙ tops_are (Some path) paths sorted.0 sorted.1)
    ] refl

-- the roots of paths in order are those that are found one after another
pub roots_found : (paths : List (List Seg)) → IsStrictlySortedBy path_cmp paths → roots_of paths ≡ tops None paths
roots_found paths sorted = tops_are None paths tt sorted
