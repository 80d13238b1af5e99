-- The entries of an ordered map as rows, and the rows without one.
use Rattle.std.specs.Prelude.{List, [], ◌∷◌, Option, Some, None, is_some, if◌then◌else◌}
use Rattle.std.specs.Ordering.{is_eq}
use Rattle.yp_base.specs.declared.path.Seg.{Seg}
use Rattle.yp_base.specs.declared.row.Value.{Value}
use Rattle.yp_base.specs.declared.row.Row.{Row}
use Rattle.yp_base.specs.Order.{path_cmp}
use Rattle.yp_base.specs.Rows.{value_at, put_row}
pub use Rattle.yp_base.specs.Rows.{row_of, rows_of}

-- the rows with the value of this one at the row that has its path, and as they are where there is none
abbrev pub set_row : Row → List Row → List Row
set_row new rows = if is_some (value_at new.path rows) then put_row new rows else rows

-- the rows without the one that has this path
abbrev pub without_row : List Seg → List Row → List Row
without_row path [] = []
without_row path (row ∷ rows) = if is_eq (path_cmp path row.path) then rows else row ∷ without_row path rows

-- the rows with the value that the path of a row had: it gets it, or its row goes where there was none
abbrev pub given_back : Option Row → Option Value → List Row → List Row
given_back None old rows = rows
given_back (Some new) None rows = without_row new.path rows
given_back (Some new) (Some value) rows = set_row (row_of (new.path, value)) rows

-- the same of the paths of rows that were put, the last one first
abbrev pub undone : List Row → List (Option Value) → List Row → List Row
undone [] olds rows = rows
undone (new ∷ news) [] rows = rows
undone (new ∷ news) (old ∷ olds) rows = given_back (Some new) old (undone news olds rows)

-- the rows without those of these paths, but for paths that have a new row
abbrev pub without_others : List (List Seg) → List Row → List Row → List Row
without_others [] news rows = rows
without_others (path ∷ paths) news rows = without_others paths news (if is_some (value_at path news) then rows else without_row path rows)
