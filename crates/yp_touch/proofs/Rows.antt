-- The row of a path among those at or below it.
use Rattle.std.proofs.Common.{◌≡◌, Bool, List, [], ◌∷◌, ◌∙◌, ◌||◌, refl, sym, ap, cond, true, false, Some, None}
use Rattle.std.specs.Prelude.{is_some}
use Rattle.std.specs.List.{list_any}
use Rattle.std.specs.Ordering.{is_eq}
use Rattle.yp_base.specs.declared.path.Seg.{Seg}
use Rattle.yp_base.specs.declared.row.Row.{Row}
use Rattle.yp_base.specs.Order.{path_cmp, is_within}
use Rattle.yp_base.specs.PathLaws.{within_itself}
use Rattle.yp_base.specs.Rows.{rows_within, value_at}
use Rattle.yp_schema.specs.Datastore.{has_row}
use Rattle.yp_kept.specs.SelectionLaws.{value_selected}

-- one of some rows has a path where there is a row of it
is_listed : (path : List Seg) (rows : List Row) → list_any (λ row. is_eq (path_cmp path row.path)) rows ≡ has_row path rows
is_listed path [] = refl
is_listed path (row ∷ rows) =
    elim (is_eq (path_cmp path row.path)) as (λ b. (b || list_any (λ row. is_eq (path_cmp path row.path)) rows) ≡ is_some (cond b (Some row.value) (value_at path rows))) [
      | true ↦ refl
      | false ↦ is_listed path rows
    ]

-- it is there where it is among all
has_within_itself : (path : List Seg) (rows : List Row) → has_row path (rows_within path rows) ≡ has_row path rows
has_within_itself path rows = ap is_some (value_selected (is_within path) path rows ∙ ap (λ b. cond b (value_at path rows) None) (within_itself path))

-- whether the row of a path is among those at or below it that were found
pub found_among : (path : List Seg) (rows found : List Row) (b : Bool) → found ≡ rows_within path rows → b ≡ list_any (λ row. is_eq (path_cmp path row.path)) found → has_row path rows ≡ b
found_among path rows found b is told = sym (has_within_itself path rows) ∙ sym (ap (has_row path) is) ∙ sym (is_listed path found) ∙ sym told
