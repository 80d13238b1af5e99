-- The rows of one entry stand together.
use Rattle.std.proofs.Common.{◌≡◌, ℕ, zero, suc, ◌+◌, ◌≤◌, List, [], ◌∷◌, length, take, drop, map, true, false, true≢false, refl, sym, ap, subst, ◌∙◌, Less, add-one, arith}
use Rattle.std.specs.Ordering.{is_eq, is_gt}
use Rattle.std.specs.List.{AllByRecursion}
use Rattle.std.specs.List.Sorted.{IsStrictlySortedBy}
use Rattle.std.proofs.lemmas.Bool.{and_from}
use Rattle.std.proofs.lemmas.Cmp.{tied_itself}
use Rattle.yp_base.specs.declared.path.Seg.{Seg}
use Rattle.yp_base.specs.declared.row.Row.{Row}
use Rattle.yp_base.specs.Order.{path_cmp, is_within}
use Rattle.yp_base.specs.OrderLaws.{segments_total, paths_total}
use Rattle.yp_base.specs.PathLaws.{within_together, within_rest}
use Rattle.yp_data_json.specs.Runs.{rest_at, HasSegment, StartsWith, StartsApart, AreRising}
use Rattle.yp_data_json.proofs.Below.{drop_next}

begins : (seg : Seg) (rest : List Seg) → is_within (seg ∷ []) (seg ∷ rest) ≡ true
begins seg rest = and_from _ _ (ap is_eq (tied_itself segments_total seg)) refl

-- a segment alone isn't past a path that is past one which it begins
not_past : (seg : Seg) (rest path : List Seg) → path_cmp (seg ∷ rest) path ≡ Less → is_gt (path_cmp (seg ∷ []) path) ≡ false
not_past seg [] path less = ap is_gt less
not_past seg (s ∷ rest) path less =
    let first : path_cmp (seg ∷ []) (seg ∷ s ∷ rest) ≡ Less = rw (tied_itself segments_total seg) refl in
    ap is_gt (paths_total.trans (seg ∷ []) (seg ∷ s ∷ rest) path first less)

-- between two paths that begin with a segment each begins with it
between : (seg : Seg) (a path c : List Seg) → path_cmp (seg ∷ a) path ≡ Less → path_cmp path (seg ∷ c) ≡ Less → is_within (seg ∷ []) path ≡ true
between seg a path c one two =
    elim (is_within (seg ∷ []) path) as (λ b. is_within (seg ∷ []) path ≡ b → b ≡ true) [
      | true ↦ λ e. refl
      | false ↦ λ e. absurd (true≢false (sym (begins seg c) ∙ within_together (seg ∷ []) path (seg ∷ c) (not_past seg a path one) e (ap is_gt two)))
    ] refl

row_between : (depth : ℕ) (seg : Seg) (one row two : Row) → HasSegment depth seg one → path_cmp (rest_at depth one) (rest_at depth row) ≡ Less → path_cmp (rest_at depth row) (rest_at depth two) ≡ Less → HasSegment depth seg two → HasSegment depth seg row
row_between depth seg one row two has after before too =
    let found = within_rest (seg ∷ []) (rest_at depth row)
    (between seg (drop (depth + 1) one.path) (rest_at depth row) (drop (depth + 1) two.path) (sym (ap (λ p. path_cmp p (rest_at depth row)) has) ∙ after) (sym (ap (path_cmp (rest_at depth row)) too) ∙ before)) in
    found.1 ∙ ap (λ rest. seg ∷ rest) (sym (drop_next depth row.path seg found.0 found.1))

less_later : (depth : ℕ) (q : List Seg) (rows : List Row) (k : ℕ) (row : Row) (more : List Row) → AllByRecursion (λ p. path_cmp q p ≡ Less) (map (rest_at depth) rows) → drop k rows ≡ row ∷ more → path_cmp q (rest_at depth row) ≡ Less
less_later depth q [] zero row more all is = cc
less_later depth q [] (suc k) row more all is = cc
less_later depth q (x ∷ rows) zero row more all is = let same : x ≡ row = cc in subst (λ (r : Row). path_cmp q (rest_at depth r) ≡ Less) same all.0
less_later depth q (x ∷ rows) (suc k) row more all is = less_later depth q rows k row more all.1 is

next_has : (depth : ℕ) (seg : Seg) (first next : Row) (rows : List Row) (k : ℕ) (row : Row) (more : List Row) → AreRising depth (first ∷ next ∷ rows) → HasSegment depth seg first → drop k (next ∷ rows) ≡ row ∷ more → HasSegment depth seg row → HasSegment depth seg next
unfolding IsStrictlySortedBy
next_has depth seg first next rows zero row more order has is too = let same : next ≡ row = cc in subst (λ (r : Row). HasSegment depth seg r) (sym same) too
next_has depth seg first next rows (suc k) row more order has is too = row_between depth seg first next row has order.0.0 (less_later depth (rest_at depth next) rows k row more order.1.0 is) too

rising_tail : (depth : ℕ) (row : Row) (rows : List Row) → AreRising depth (row ∷ rows) → AreRising depth rows
unfolding IsStrictlySortedBy
rising_tail depth row rows order = order.1

-- where rows begin with the rows of an entry, all up to one of its rows are
run_to : (depth : ℕ) (seg : Seg) (rows : List Row) (k : ℕ) (row : Row) (more : List Row) → AreRising depth rows → StartsWith depth seg rows → drop k rows ≡ row ∷ more → HasSegment depth seg row → AllByRecursion (HasSegment depth seg) (take (suc k) rows)
run_to depth seg [] k row more order first is too = absurd first
run_to depth seg (x ∷ rows) zero row more order first is too = (first, tt)
run_to depth seg (x ∷ []) (suc k) row more order first is too = (first, tt)
run_to depth seg (x ∷ y ∷ rows) (suc k) row more order first is too =
    (first, run_to depth seg (y ∷ rows) k row more (rising_tail depth x (y ∷ rows) order) (next_has depth seg x y rows k row more order first is too) is too)

pub run_further : (depth : ℕ) (seg : Seg) (rows : List Row) (k : ℕ) (row : Row) → AreRising depth rows → StartsWith depth seg rows → drop k rows ≡ row ∷ drop (k + 1) rows → HasSegment depth seg row → AllByRecursion (HasSegment depth seg) (take (k + 1) rows)
run_further depth seg rows k row order first is too = subst (λ n. AllByRecursion (HasSegment depth seg) (take n rows)) (sym (add-one k)) (run_to depth seg rows k row (drop (k + 1) rows) order first is too)

-- the first row alone
pub run_first : (depth : ℕ) (seg : Seg) (rows : List Row) → StartsWith depth seg rows → AllByRecursion (HasSegment depth seg) (take 1 rows)
run_first depth seg [] first = absurd first
run_first depth seg (row ∷ rows) first = (first, tt)

pub some_first : (depth : ℕ) (seg : Seg) (rows : List Row) → StartsWith depth seg rows → 1 ≤ length rows
some_first depth seg [] first = absurd first
some_first depth seg (row ∷ rows) first = omega arith

-- rows that begin with one that hasn't the segment
pub apart_at : (depth : ℕ) (seg : Seg) (rows : List Row) (row : Row) (more : List Row) → rows ≡ row ∷ more → (HasSegment depth seg row → ⊥) → StartsApart depth seg rows
apart_at depth seg rows row more is apart = subst (λ (xs : List Row). StartsApart depth seg xs) (sym is) apart
