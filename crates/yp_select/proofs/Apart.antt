-- The visits of the rows at or below paths that are apart.
use Rattle.std.proofs.Common.{◌≡◌, ◌≤◌, ◌<◌, ◌+◌, ℕ, List, [], ◌∷◌, ◌++◌, length, take, drop, drop-cons, get_or, suc, refl, sym, ap, ◌∙◌, cond, Bool, true, false, ◌||◌, arith}
use Rattle.std.specs.Prelude.{not}
use Rattle.std.specs.List.{list_any, AllByRecursion}
use Rattle.std.specs.Ordering.{is_eq}
use Rattle.std.proofs.Math.Seq.{take-suc}
use Rattle.std.proofs.lemmas.List.Filters.{length-filter_both}
use Rattle.std.proofs.lemmas.List.Folds.{list_any-append}
use Rattle.yp_base.specs.declared.path.Seg.{Seg}
use Rattle.yp_base.specs.declared.row.Row.{Row}
use Rattle.yp_base.specs.Order.{path_cmp, is_within}
use Rattle.yp_base.specs.Rows.{rows_within, rows_without}
use Rattle.yp_base.specs.PathLaws.{within_one}
use Rattle.yp_select.specs.Reaches.{StandApart}

outside : (one two path : List Seg) → is_within one two ≡ false → is_within two one ≡ false → is_within one path ≡ true → is_within two path ≡ false
outside one two path apart other first =
    elim (is_within two path) as (λ b. is_within two path ≡ b → b ≡ false) [
      | true ↦ λ second. sym (within_one one two path first second apart) ∙ other
      | false ↦ λ second. refl
    ] refl

-- what is at or below one of two paths that are apart is there without what is at or below the other
still_within : (one two : List Seg) (rows : List Row) → is_within one two ≡ false → is_within two one ≡ false → rows_within two (rows_without one rows) ≡ rows_within two rows
still_within one two [] apart other = refl
still_within one two (row ∷ rows) apart other =
    elim (is_within one row.path) as (λ b. is_within one row.path ≡ b → rows_within two (cond (not b) (row ∷ rows_without one rows) (rows_without one rows)) ≡ cond (is_within two row.path) (row ∷ rows_within two rows) (rows_within two rows)) [
      | true ↦ λ is. still_within one two rows apart other ∙ ap (λ b. cond b (row ∷ rows_within two rows) (rows_within two rows)) (sym (outside one two row.path apart other is))
      | false ↦ λ is. ap (λ xs. cond (is_within two row.path) (row ∷ xs) xs) (still_within one two rows apart other)
    ] refl

-- a visit for each row at or below each path, and one for each path
abbrev pub visits_below : List Row → List (List Seg) → ℕ
visits_below rows [] = 0
visits_below rows (path ∷ paths) = length (rows_within path rows) + 1 + visits_below rows paths

same_visits : (one : List Seg) (paths : List (List Seg)) (rows : List Row) → AllByRecursion (λ other. is_within one other ≡ false) paths → AllByRecursion (λ other. is_within other one ≡ false) paths → visits_below (rows_without one rows) paths ≡ visits_below rows paths
same_visits one [] rows apart other = refl
same_visits one (path ∷ paths) rows apart other =
    (λ i. length (still_within one path rows apart.0 other.0 i) + 1 + same_visits one paths rows apart.1 other.1 i)

pub visits_most : (paths : List (List Seg)) (rows : List Row) → StandApart paths → visits_below rows paths ≤ length rows + length paths
visits_most [] rows apart = omega arith
visits_most (path ∷ paths) rows apart =
    let both : length (rows_within path rows) + length (rows_without path rows) ≡ length rows = length-filter_both (λ row. is_within path row.path) (λ row. not (is_within path row.path)) (λ row. refl) rows in
    let same : visits_below (rows_without path rows) paths ≡ visits_below rows paths = same_visits path paths rows apart.0 apart.1 in
    omega (arith, both, same, visits_most paths (rows_without path rows) apart.2)

-- ---- one path more

or_none : (b : Bool) → (b || false) ≡ b
or_none true = refl
or_none false = refl

any_more : (test : List Seg → Bool) (paths : List (List Seg)) (k : ℕ) (path : List Seg) → k < length paths → path ≡ get_or paths k path → list_any test (take (k + 1) paths) ≡ (list_any test (take k paths) || test path)
any_more test paths k path less is =
    let next : k + 1 ≡ suc k = omega arith in
    ap (λ n. list_any test (take n paths)) next
    ∙ ap (list_any test) (take-suc paths k path less ∙ ap (λ (p : List Seg). take k paths ++ p ∷ []) (sym is))
    ∙ list_any-append test (take k paths) (path ∷ [])
    ∙ ap (λ b. list_any test (take k paths) || b) (or_none (test path))

pub own_more : (paths : List (List Seg)) (k : ℕ) (path other : List Seg) → k < length paths → path ≡ get_or paths k path → list_any (λ each. is_eq (path_cmp other each)) (take (k + 1) paths) ≡ (list_any (λ each. is_eq (path_cmp other each)) (take k paths) || is_eq (path_cmp other path))
own_more paths k path other less is = any_more (λ each. is_eq (path_cmp other each)) paths k path less is

pub below_more : (paths : List (List Seg)) (k : ℕ) (path other : List Seg) (before : Bool) → k < length paths → path ≡ get_or paths k path
    → ((before || list_any (λ each. is_within each other) (take k paths)) || is_within path other) ≡ (before || list_any (λ each. is_within each other) (take (k + 1) paths))
below_more paths k path other before less is =
    or_moved before (list_any (λ each. is_within each other) (take k paths)) (is_within path other) ∙ ap (λ b. before || b) (sym (any_more (λ each. is_within each other) paths k path less is))
  where
    or_moved : (a b c : Bool) → ((a || b) || c) ≡ (a || (b || c))
    or_moved true b c = refl
    or_moved false b c = refl

-- the visits of a path and of those that are left
pub visits_next : (rows : List Row) (paths : List (List Seg)) (k : ℕ) (path : List Seg) → k < length paths → path ≡ get_or paths k path → visits_below rows (drop k paths) ≡ length (rows_within path rows) + 1 + visits_below rows (drop (k + 1) paths)
visits_next rows paths k path less is =
    let next : suc k ≡ k + 1 = omega arith in
    ap (visits_below rows) (drop-cons paths k path less ∙ (λ i. sym is i ∷ drop (next i) paths))
