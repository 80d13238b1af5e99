-- The rows that differ between two datastores.
use Rattle.std.specs.Prelude.{List, map, Bool, true, false, Option, Some, None, if◌then◌else◌}
use Rattle.std.specs.List.{filter_map}
use Rattle.yp_base.specs.declared.path.Seg.{Seg}
use Rattle.yp_base.specs.declared.row.Value.{Value}
use Rattle.yp_base.specs.declared.row.Row.{Row}
use Rattle.yp_base.specs.Rows.{path_of, same_value, value_at, put_rows}
use Rattle.yp_changes.specs.declared.changed.ChangedRow.{ChangedRow}

-- whether two rows of a path are alike: both missing, or both there with one value
abbrev pub are_alike : Option Value → Option Value → Bool
are_alike None None = true
are_alike None (Some new) = false
are_alike (Some old) None = false
are_alike (Some old) (Some new) = same_value old new

-- the change of the row of a path, where there is one
abbrev pub change_of : List Seg → Option Value → Option Value → Option ChangedRow
change_of path old new = if are_alike old new then None else Some (record { path = path; old = old; new = new })

abbrev pub row_change : List Row → List Row → List Seg → Option ChangedRow
row_change old new path = change_of path (value_at path old) (value_at path new)

-- the paths of two lists in order, each once
abbrev pub paths_of_both : List Row → List Row → List (List Seg)
paths_of_both old new = map path_of (put_rows new old)

-- the rows that differ, in the order of their paths, once each
abbrev pub changed_rows : List Row → List Row → List ChangedRow
changed_rows old new = filter_map (row_change old new) (paths_of_both old new)

-- a change the other way round
abbrev pub turned : ChangedRow → ChangedRow
turned change = record { path = change.path; old = change.new; new = change.old }
