-- Where a step looks, what it finds there, and what it makes of that.
use Rattle.std.specs.Prelude.{◌≡◌, ◌≤◌, take, drop, ℕ, ◌+◌, ◌*◌, length, sum, Option, Some, None, List, [], ◌∷◌, ◌++◌, map, filter, Bool, not, ◌||◌, if◌then◌else◌}
use Rattle.std.specs.List.{list_any, filter_map, AllByRecursion}
use Rattle.std.specs.Ordering.{is_eq}
use Rattle.std.specs.declared.cmp.Ordering.TheVariants.{Less, Greater}
use Rattle.yp_base.specs.declared.path.Seg.{Seg}
use Rattle.yp_base.specs.declared.row.Row.{Row}
use Rattle.yp_base.specs.Order.{path_cmp, is_within}
use Rattle.yp_base.specs.Paths.{last_node}
use Rattle.yp_base.specs.Rows.{path_of, value_at, rows_within}
use Rattle.yp_schema.specs.declared.schema.SchemaNode.{SchemaNode}
use Rattle.yp_schema.specs.Datastore.{has_row}
use Rattle.yp_changes.specs.declared.changed.ChangedRow.{ChangedRow}
use Rattle.yp_changes.specs.Changes.{are_alike}
use Rattle.yp_changes.specs.Records.{put_path}
use Rattle.yp_filter.specs.Filters.{Asked, filter_size}
use Rattle.yp_select.specs.Places.{path_above, is_compared}
use Rattle.yp_touch.specs.declared.root.Root.{Root}
use Rattle.yp_touch.specs.RootLaws.{has_root}

-- ---- where a step looks

-- whether the change of a row can move a path: one at or below the path above the row, where the filter matches on its node, and else the row's own
abbrev pub can_move : List SchemaNode → Asked → List Seg → List Seg → Bool
can_move nodes asked path one = if is_compared nodes asked (last_node one) then is_within (path_above one) path else is_eq (path_cmp path one)

-- whether a step looks at a path
abbrev pub is_looked_at : List SchemaNode → Asked → List (List Seg) → List Seg → Bool
is_looked_at nodes asked changed path = list_any (can_move nodes asked path) changed

-- the paths that a step looks at for a changed row: where the filter matches on its node those of the rows at or below the path above, before and after, and else its own
abbrev pub looks_at : List SchemaNode → Asked → List Row → List Row → List Seg → List (List Seg)
looks_at nodes asked before after one =
    if is_compared nodes asked (last_node one) then map path_of (rows_within (path_above one) before) ++ map path_of (rows_within (path_above one) after) else one ∷ []

abbrev pub looks_of : List SchemaNode → Asked → List Row → List Row → List (List Seg) → List (List Seg)
looks_of nodes asked before after [] = []
looks_of nodes asked before after (one ∷ changed) = looks_at nodes asked before after one ++ looks_of nodes asked before after changed

-- a changed row with its values in two lists
pub record IsBetween (old new : List Row) (row : ChangedRow) : Type 0 where
  pub before : row.old ≡ value_at row.path old
  pub after : row.new ≡ value_at row.path new

-- ---- what it finds

-- the root that is found at a path: where no root covers it, and the two selections differ there
abbrev pub root_found : List (List Seg) → List Row → List Row → List Seg → Option Root
root_found roots old new path = if has_root path roots || are_alike (value_at path old) (value_at path new) then None else Some (record { path = path; was = has_row path old })

abbrev pub roots_found : List (List Seg) → List Row → List Row → List (List Seg) → List Root
roots_found roots old new paths = filter_map (root_found roots old new) paths

-- what is selected at or below a path, where its own row is
abbrev pub rows_from : List Row → List Seg → Option (List Row)
rows_from new path = if has_row path new then Some (rows_within path new) else None

-- ---- what it makes of that

-- topmost paths with one more: it is one of them where none covers it, and takes the place of those below it
abbrev pub with_path : List (List Seg) → List Seg → List (List Seg)
with_path paths new = if has_root new paths then paths else put_path new (filter (λ path. not (is_within new path)) paths)

-- topmost paths with more of them, one after another
abbrev pub with_paths : List (List Seg) → List (List Seg) → List (List Seg)
with_paths paths [] = paths
with_paths paths (new ∷ news) = with_paths (with_path paths new) news

-- those of some roots that none of some paths is at or above
abbrev pub uncovered : List (List Seg) → List Root → List Root
uncovered paths roots = filter (λ root. not (has_root root.path paths)) roots

-- so many of some paths in order come before a path, and the others after it
pub record StandsAt (path : List Seg) (paths : List (List Seg)) (at : ℕ) : Type 0 where
  pub within : at ≤ length paths
  pub before : AllByRecursion (λ other. path_cmp other path ≡ Less) (take at paths)
  pub after : AllByRecursion (λ other. path_cmp other path ≡ Greater) (drop at paths)

-- ---- what that costs

-- the most visits of a look at a path in two selections, with so many nodes of a filter
abbrev pub look_visits : ℕ → ℕ
look_visits size = 2 * (size + 1)

-- the most visits of the looks for a changed row
abbrev pub looks_visits : List SchemaNode → Asked → List Row → List Row → List Seg → ℕ
looks_visits nodes asked before after one =
    if is_compared nodes asked (last_node one)
    then (length (rows_within (path_above one) before) + 1) + (length (rows_within (path_above one) after) + 1)
    + (length (rows_within (path_above one) before) + length (rows_within (path_above one) after)) * look_visits (filter_size asked)
    else look_visits (filter_size asked)

-- the rows at or below the path above a changed row, before and after, where the filter matches on its node
abbrev pub moved_rows : List SchemaNode → Asked → List Row → List Row → List Seg → ℕ
moved_rows nodes asked before after one =
    if is_compared nodes asked (last_node one) then length (rows_within (path_above one) before) + length (rows_within (path_above one) after) else 0

-- the most visits of a step: for each changed row and each row that it can move, sixteen for each node of the filter, and sixteen more
abbrev pub step_visits : List SchemaNode → Asked → List Row → List Row → List ChangedRow → ℕ
step_visits nodes asked before after changed = (length changed + sum (map (λ row. moved_rows nodes asked before after row.path) changed)) * (16 * (filter_size asked + 1))

-- the most visits of the edit of a root
abbrev pub root_visits : Asked → List Row → List Seg → ℕ
root_visits asked rows path = (length (rows_within path rows) + 1) * (16 * (filter_size asked + 1))

-- the rows of a datastore at or below some roots
abbrev pub rows_below : List Row → List Root → ℕ
rows_below rows roots = sum (map (λ root. length (rows_within root.path rows)) roots)

-- the most visits of a record: for each root and each row at or below one, sixteen for each node of the filter, and sixteen more
abbrev pub window_visits : Asked → List Row → List Root → ℕ
window_visits asked rows roots = (rows_below rows roots + length roots) * (16 * (filter_size asked + 1))
