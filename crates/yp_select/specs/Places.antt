-- Where a changed row can move what a filter keeps.
use Rattle.std.specs.Prelude.{◌≡◌, ℕ, List, [], ◌∷◌, Bool, false, ◌&&◌, Option, Some, None, if◌then◌else◌}
use Rattle.std.specs.List.{list_any}
use Rattle.yp_base.specs.declared.path.Seg.{Seg}
use Rattle.yp_base.specs.declared.row.Row.{Row}
use Rattle.yp_base.specs.Order.{is_within}
use Rattle.yp_base.specs.Paths.{last_node, above_last}
use Rattle.yp_base.specs.Rows.{value_at}
use Rattle.yp_schema.specs.declared.schema.SchemaNode.{SchemaNode}
use Rattle.yp_schema.specs.Nodes.{node_at}
use Rattle.yp_schema.specs.Datastore.{is_leaf_kind}
use Rattle.yp_filter.specs.Filters.{Asked, compares}
use Rattle.yp_select.specs.Reaches.{is_one_of}

-- the path above
abbrev pub path_above : List Seg → List Seg
path_above [] = []
path_above (seg ∷ segs) = above_last seg segs

-- whether a node is a leaf or a leaf-list, and the filter matches on it
abbrev pub is_compared : List SchemaNode → Asked → Option ℕ → Bool
is_compared nodes asked None = false
is_compared nodes asked (Some n) = is_leaf_kind (node_at n nodes).kind && compares n asked

-- the place that the change of a row can move: where the filter matches on its node the path above the row, else the row
abbrev pub moved_place : List SchemaNode → Asked → List Seg → List Seg
moved_place nodes asked path = if is_compared nodes asked (last_node path) then path_above path else path

-- whether a path is at or below the place that one of these can move
abbrev pub is_moved : List SchemaNode → Asked → List (List Seg) → List Seg → Bool
is_moved nodes asked changed path = list_any (λ one. is_within (moved_place nodes asked one) path) changed

-- two lists of rows have the same at each path but these
abbrev pub DifferAt : List (List Seg) → List Row → List Row → Type 0
DifferAt changed before after = (path : List Seg) → is_one_of changed path ≡ false → value_at path before ≡ value_at path after
