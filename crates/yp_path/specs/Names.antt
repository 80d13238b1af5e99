-- Names of children (RFC 7951 section 4).
use Rattle.std.specs.Prelude.{ℕ, List, Bool, ◌&&◌, ◌||◌, Option, Some, None, if◌then◌else◌}
use Rattle.yp_base.specs.Types.{same_text}
use Rattle.yp_schema.specs.declared.schema.SchemaNode.{SchemaNode}
use Rattle.yp_base.specs.Paths.{same_number}
use Rattle.yp_schema.specs.Nodes.{node_at, place_from, child_of, qualified_name}

-- whether a node is the child that a name names, by its member form or by its qualified name
abbrev pub is_named : Option ℕ → List ℕ → SchemaNode → Bool
is_named parent name node = same_number node.parent parent && (same_text node.member name || same_text (qualified_name node) name)

-- the child that a name names
abbrev pub child_named : Option ℕ → List ℕ → List SchemaNode → Option ℕ
child_named parent name nodes = place_from (is_named parent name) 0 nodes

-- the child whose member form is this name without a module
abbrev pub with_name : List ℕ → List SchemaNode → Option ℕ → Option ℕ
with_name name nodes None = None
with_name name nodes (Some n) = if same_text (node_at n nodes).name name then Some n else None

abbrev pub own_child : Option ℕ → List ℕ → List SchemaNode → Option ℕ
own_child parent name nodes = with_name name nodes (child_of parent name nodes)
