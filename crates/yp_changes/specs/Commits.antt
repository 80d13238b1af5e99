-- Changes that are made to rows: first the rows of new paths are put, then the others get their new values, and then the paths that are to have none lose theirs.
use Rattle.std.specs.Prelude.{◌≡◌, List, [], ◌∷◌, Option, Some, None, is_some, if◌then◌else◌}
use Rattle.yp_base.specs.declared.path.Seg.{Seg}
use Rattle.yp_base.specs.declared.row.Value.{Value}
use Rattle.yp_base.specs.declared.row.Row.{Row}
use Rattle.yp_base.specs.Rows.{value_at, AreInOrder}
use Rattle.yp_tree.specs.Listed.{set_row, without_row}
use Rattle.yp_changes.specs.declared.changed.ChangedRow.{ChangedRow}
use Rattle.yp_changes.specs.Changes.{changed_rows}

-- changes are the rows that differ before and after; those after are in order
pub record Differ (changes : List ChangedRow) (before after : List Row) : Type 0 where
  pub in_order : AreInOrder after
  pub changed : changes ≡ changed_rows before after

abbrev pub row_with : List Seg → Option Value → Option Row
row_with path None = None
row_with path (Some value) = Some (record { path = path; value = value })

-- the new row of a path that had none
abbrev pub added_row : ChangedRow → Option Row
added_row change = if is_some change.old then None else row_with change.path change.new

-- the new value of a path that had a row
abbrev pub given_value : ChangedRow → Option Value
given_value change = if is_some change.old then change.new else None

-- and its new row
abbrev pub given_row : ChangedRow → Option Row
given_row change = row_with change.path (given_value change)

-- the rows with the values of these, one after another, at those that have their paths
abbrev pub set_rows : List Row → List Row → List Row
set_rows [] rows = rows
set_rows (new ∷ news) rows = set_rows news (set_row new rows)

-- the rows without those of the paths whose changes lack a value, which is the old one or the new one
abbrev pub without_missing : (ChangedRow → Option Value) → List ChangedRow → List Row → List Row
without_missing value [] rows = rows
without_missing value (change ∷ changes) rows = without_missing value changes (if is_some (value change) then rows else without_row change.path rows)

-- paths other than those of the new rows have what they had
abbrev pub KeepsOthers : List Row → List Row → List Row → Type 0
KeepsOthers news before after = (path : List Seg) → value_at path news ≡ None → value_at path after ≡ value_at path before
