-- Changes made to rows one after another, and the first path of rows and of changes.
use Rattle.std.specs.Prelude.{◌≡◌, ◌+◌, ◌<◌, List, [], ◌∷◌, length, Option, Some, None}
use Rattle.std.specs.List.{cons_option}
use Rattle.yp_base.specs.declared.path.Seg.{Seg}
use Rattle.yp_base.specs.declared.row.Value.{Value}
use Rattle.yp_base.specs.declared.row.Row.{Row}
use Rattle.yp_base.specs.Rows.{put_row, AreInOrder}
use Rattle.yp_tree.specs.Listed.{without_row}
use Rattle.yp_changes.specs.declared.changed.ChangedRow.{ChangedRow}
use Rattle.yp_changes.specs.ChangeLaws.{AreSorted}
use Rattle.yp_changes.specs.Commits.{row_with}

-- the row that a change leaves at its path
abbrev pub new_row : ChangedRow → Option Row
new_row change = row_with change.path change.new

-- the rows with this value at a path, and without a row there where there is none
abbrev pub with_value : List Seg → Option Value → List Row → List Row
with_value path None rows = without_row path rows
with_value path (Some value) rows = put_row (record { path = path; value = value }) rows

-- the rows that changes make of others
abbrev pub made : List ChangedRow → List Row → List Row
made [] rows = rows
made (change ∷ changes) rows = made changes (with_value change.path change.new rows)

-- the rows with one more, where there is one
abbrev pub with_row : Option Row → List Row → List Row
with_row None rows = rows
with_row (Some row) rows = put_row row rows

-- what changes make of rows begins with this row, and goes on with what these fewer changes make of these rows
pub record Begins (rows : List Row) (changes : List ChangedRow) (row : Option Row) (rows_left : List Row) (changes_left : List ChangedRow) : Type 0 where
  pub rows_order : AreInOrder rows_left
  pub changes_order : AreSorted changes_left
  pub fewer : length rows_left + length changes_left < length rows + length changes
  pub all_made : made changes rows ≡ cons_option row (made changes_left rows_left)
