-- What is left of rows in order once they were looked through for a path.
use Rattle.std.proofs.Common.{◌≡◌, List, ◌∷◌, true, false, true≢false, cond, Option, Some, None, refl, sym, ap, ◌∙◌, Less, Equal, Greater}
use Rattle.std.specs.Prelude.{is_some}
use Rattle.std.specs.Ordering.{is_eq, is_lt}
use Rattle.std.proofs.lemmas.Cmp.{tied_itself}
use Rattle.yp_base.specs.declared.path.Seg.{Seg}
use Rattle.yp_base.specs.declared.row.Row.{Row}
use Rattle.yp_base.specs.Order.{path_cmp}
use Rattle.yp_base.specs.OrderLaws.{paths_total}
use Rattle.yp_base.specs.PathLaws.{greater_turned, are_one, tie_turned}
use Rattle.yp_base.specs.Rows.{value_at, AreInOrder}
use Rattle.yp_base.specs.RowLaws.{none_past, all_past, first_order, rest_order}
use Rattle.yp_receiver.specs.Finding.{AreLeft, AreLeftAfter, is_behind}

-- a path that comes before one does so before all that this one comes before or ties with
before_later : (path middle last : List Seg) → is_lt (path_cmp path middle) ≡ false → is_lt (path_cmp middle last) ≡ false → is_lt (path_cmp path last) ≡ false
before_later path middle last h k =
    elim (path_cmp path last) as (λ o. path_cmp path last ≡ o → is_lt o ≡ false) [
      | Less ↦ λ less.
          elim (path_cmp middle last) as (λ o. path_cmp middle last ≡ o → true ≡ false) [
            | Less ↦ λ e. sym (ap is_lt e) ∙ k
            | Equal ↦ λ e. sym (ap is_lt (ap (λ p. path_cmp path p) (are_one middle last (ap is_eq e)) ∙ less)) ∙ h
            | Greater ↦ λ e. sym (ap is_lt (paths_total.trans path last middle less (greater_turned middle last e))) ∙ h
          ] refl
      | Equal ↦ λ e. refl
      | Greater ↦ λ e. refl
    ] refl

-- a row that comes before a path has no value at any that doesn't
pub not_first : (first : Row) (later : List Row) (path other : List Seg) → path_cmp first.path path ≡ Less → is_lt (path_cmp other path) ≡ false → value_at other later ≡ value_at other (first ∷ later)
not_first first later path other less from =
    elim (path_cmp other first.path) as (λ o. path_cmp other first.path ≡ o → value_at other later ≡ cond (is_eq o) (Some first.value) (value_at other later)) [
      | Less ↦ λ e. absurd (true≢false (sym (ap is_lt (paths_total.trans other first.path path e less)) ∙ from))
      | Equal ↦ λ e. absurd (true≢false (sym (ap is_lt (ap (λ p. path_cmp p path) (are_one other first.path (ap is_eq e)) ∙ less)) ∙ from))
      | Greater ↦ λ e. refl
    ] refl

-- one that has the path has its value
pub found_first : (first : Row) (later : List Row) (path : List Seg) → path_cmp first.path path ≡ Equal → is_some (value_at path (first ∷ later)) ≡ true
found_first first later path equal =
    ap (λ b. is_some (cond b (Some first.value) (value_at path later))) (tie_turned path first.path ∙ ap is_eq equal)

-- one past the path leaves none that has it
pub none_first : (first : Row) (later : List Row) (path : List Seg) → AreInOrder (first ∷ later) → path_cmp first.path path ≡ Greater → is_some (value_at path (first ∷ later)) ≡ false
none_first first later path order greater =
    let less = greater_turned first.path path greater in
    ap is_some (none_past path (first ∷ later) (less, all_past path first.path later less (first_order first later order)))

-- the rows are left of themselves
pub all_left : (last : Option (List Seg)) (rows : List Row) → AreInOrder rows → AreLeftAfter last rows rows
all_left last rows order = (order, order, λ path from. refl)

-- so are the others once the first one was passed
pub fewer_left : (path : List Seg) (rows : List Row) (first : Row) (later : List Row) → path_cmp first.path path ≡ Less → AreLeft path rows (first ∷ later) → AreLeft path rows later
fewer_left path rows first later less left = (left.0, rest_order first later left.1, λ other from. not_first first later path other less from ∙ left.2 other from)

-- what is left after a path is left after one that doesn't come before it
pub later_left : (path : List Seg) (last : Option (List Seg)) (rows left : List Row) → is_behind path last ≡ false → AreLeftAfter last rows left → AreLeft path rows left
later_left path None rows left from are = (are.0, are.1, λ other h. are.2 other refl)
later_left path (Some last) rows left from are = (are.0, are.1, λ other h. are.2 other (before_later other path last h from))

-- what is left of what is left is so of all
pub left_through : (path : List Seg) (rows some left : List Row) → AreLeft path rows some → AreLeft path some left → AreLeft path rows left
left_through path rows some left one two = (one.0, two.1, λ other h. two.2 other h ∙ one.2 other h)

-- a path has its value among what is left for it
pub found_left : (path : List Seg) (rows left : List Row) → AreLeft path rows left → value_at path left ≡ value_at path rows
found_left path rows left are = are.2 path (ap is_lt (tied_itself paths_total path))
