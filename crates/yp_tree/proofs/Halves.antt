-- Rows in order before one of them, and past it.
use Rattle.std.proofs.Common.{◌≡◌, List, [], ◌∷◌, ◌++◌, refl, sym, ap, ◌∙◌, cond, Bool, true, false, true≢false, not, ◌||◌, Some, None}
use Rattle.std.specs.Prelude.{is_some}
use Rattle.std.specs.Ordering.{is_eq, is_gt}
use Rattle.std.specs.declared.cmp.Ordering.TheVariants.{Less, Equal, Greater}
use Rattle.yp_base.specs.declared.path.Seg.{Seg}
use Rattle.yp_base.specs.declared.row.Row.{Row}
use Rattle.yp_base.specs.declared.row.Value.TheVariants.{Present}
use Rattle.yp_base.specs.Order.{path_cmp, is_within}
use Rattle.yp_base.specs.OrderLaws.{paths_total}
use Rattle.yp_base.specs.PathLaws.{less_turned, greater_turned, within_not_after}
use Rattle.yp_base.specs.Rows.{value_at, has_within, rows_without, AreInOrder}
use Rattle.yp_base.specs.RowLaws.{AllPast, all_past, none_past, none_order, first_order, rest_order, join_order, still_some, not_there_yet}
use Rattle.yp_tree.specs.Risen.{is_past}
use Rattle.yp_tree.proofs.Appending.{last_order, before_last, past_rest}

past_middle : (path : List Seg) (before : List Row) (middle : Row) (later : List Row) → AllPast path (before ++ middle ∷ later) → path_cmp path middle.path ≡ Less
past_middle path [] middle later past = past.0
past_middle path (row ∷ before) middle later past = past_middle path before middle later past.1

past_before : (path : List Seg) (before more : List Row) → AllPast path (before ++ more) → AllPast path before
past_before path [] more past = tt
past_before path (row ∷ before) more past = (past.0, past_before path before more past.1)

pub order_before : (before more : List Row) → AreInOrder (before ++ more) → AreInOrder before
order_before [] more order = none_order
order_before (row ∷ before) more order =
    join_order row before (past_before row.path before more (first_order row (before ++ more) order)) (order_before before more (rest_order row (before ++ more) order))

pub order_after : (before : List Row) (middle : Row) (later : List Row) → AreInOrder (before ++ middle ∷ later) → AreInOrder (middle ∷ later)
order_after [] middle later order = order
order_after (row ∷ before) middle later order = order_after before middle later (rest_order row (before ++ middle ∷ later) order)

-- a path before the middle row has its row before it, where it has one
pub found_before : (path : List Seg) (before : List Row) (middle : Row) (later : List Row) → AreInOrder (before ++ middle ∷ later) → path_cmp path middle.path ≡ Less → value_at path before ≡ value_at path (before ++ middle ∷ later)
found_before path [] middle later order less = sym (none_past path (middle ∷ later) (less, all_past path middle.path later less (first_order middle later order)))
found_before path (row ∷ before) middle later order less =
    ap (cond (is_eq (path_cmp path row.path)) (Some row.value)) (found_before path before middle later (rest_order row (before ++ middle ∷ later) order) less)

-- a path past it has its row past it
pub found_after : (path : List Seg) (before : List Row) (middle : Row) (later : List Row) → AreInOrder (before ++ middle ∷ later) → path_cmp path middle.path ≡ Greater → value_at path later ≡ value_at path (before ++ middle ∷ later)
found_after path [] middle later order greater = ap (λ o. cond (is_eq o) (Some middle.value) (value_at path later)) (sym greater)
found_after path (row ∷ before) middle later order greater =
    let less = paths_total.trans row.path middle.path path (past_middle row.path before middle later (first_order row (before ++ middle ∷ later) order)) (greater_turned path middle.path greater) in
    found_after path before middle later (rest_order row (before ++ middle ∷ later) order) greater
    ∙ ap (λ o. cond (is_eq o) (Some row.value) (value_at path (before ++ middle ∷ later))) (sym (less_turned row.path path less))

-- the middle row is found
pub found_middle : (path : List Seg) (before : List Row) (middle : Row) (later : List Row) → path_cmp path middle.path ≡ Equal → is_some (value_at path (before ++ middle ∷ later)) ≡ true
found_middle path [] middle later equal = ap (λ o. is_some (cond (is_eq o) (Some middle.value) (value_at path later))) equal
found_middle path (row ∷ before) middle later equal =
    still_some (is_eq (path_cmp path row.path)) row.value (value_at path (before ++ middle ∷ later)) (found_middle path before middle later equal)

-- a path past all rows has none
pub none_at_end : (path : List Seg) (rows : List Row) (past : Bool) → AreInOrder rows → past ≡ is_past path rows → past ≡ true → value_at path rows ≡ None
none_at_end path rows past order is h =
    let row : Row = record { path = path; value = Present } in
    not_there_yet rows row [] (last_order rows row order (sym is ∙ h))

-- and neither any at or below it, so that none is taken out there
none_from : (path : List Seg) (row : Row) → path_cmp row.path path ≡ Less → is_within path row.path ≡ false
none_from path row less =
    elim (is_within path row.path) as (λ b. is_within path row.path ≡ b → b ≡ false) [
      | true ↦ λ within. absurd (true≢false (sym (ap is_gt (less_turned row.path path less)) ∙ within_not_after path row.path within))
      | false ↦ λ within. refl
    ] refl

pub none_within_end : (path : List Seg) (rows : List Row) → AreInOrder rows → is_past path rows ≡ true → has_within path rows ≡ false
none_within_end path [] order past = refl
none_within_end path (row ∷ rows) order past =
    ap (λ w. w || has_within path rows) (none_from path row (before_last row rows (record { path = path; value = Present }) order past))
    ∙ none_within_end path rows (rest_order row rows order) (past_rest row rows path past)

pub all_without_end : (path : List Seg) (rows : List Row) → AreInOrder rows → is_past path rows ≡ true → rows_without path rows ≡ rows
all_without_end path [] order past = refl
all_without_end path (row ∷ rows) order past =
    ap (λ w. cond (not w) (row ∷ rows_without path rows) (rows_without path rows)) (none_from path row (before_last row rows (record { path = path; value = Present }) order past))
    ∙ ap (λ (more : List Row). row ∷ more) (all_without_end path rows (rest_order row rows order) (past_rest row rows path past))
