-- Filters of a schema: each node is a child of the one that its set stands at, and each match node asks for a value of its type.
use Rattle.std.specs.Prelude.{ℕ, List, length, Bool, true, false, ◌&&◌, nat_lt, Option, Some, None}
use Rattle.yp_base.specs.declared.leaf_type.LeafType.{LeafType}
use Rattle.yp_base.specs.declared.row.Value.{Value}
use Rattle.yp_base.specs.declared.row.Value.TheVariants.{Atom as Plain, Member, Empty, Present}
use Rattle.yp_base.specs.Paths.{same_number}
use Rattle.yp_schema.specs.declared.schema.SchemaNode.{SchemaNode}
use Rattle.yp_schema.specs.declared.schema.Kind.{Kind}
use Rattle.yp_schema.specs.Nodes.{node_at}
use Rattle.yp_schema.specs.Datastore.{atom_fits, is_leaf_kind}
use Rattle.yp_filter.specs.Filters.{Node, Nodes, select, compare, within, unknown, unknown_compare, none, more, Asked, all_rows, of_set}

-- whether a value is an atom of this type, where there is a type
abbrev pub is_atom_of : Option LeafType → Value → Bool
is_atom_of ty (Plain atom) = atom_fits ty atom
is_atom_of ty Member = false
is_atom_of ty Empty = false
is_atom_of ty Present = false

-- whether a match on a node may ask for this value: the node is a leaf or a leaf-list, and the value is an atom of its type
abbrev pub match_fits : Kind → Option LeafType → Value → Bool
match_fits kind ty value = is_leaf_kind kind && is_atom_of ty value

-- whether a number is that of a child of a node, or of the top
abbrev pub is_child_of : List SchemaNode → Option ℕ → ℕ → Bool
is_child_of nodes parent n = nat_lt n (length nodes) && same_number (node_at n nodes).parent parent

-- whether a node fits below a schema node, or at the top
abbrev mutual
  pub node_fits : List SchemaNode → Option ℕ → Node → Bool
  node_fits nodes parent (select n) = is_child_of nodes parent n
  node_fits nodes parent (compare n value) = is_child_of nodes parent n && match_fits (node_at n nodes).kind (node_at n nodes).ty value
  node_fits nodes parent (within n set) = is_child_of nodes parent n && set_fits nodes (Some n) set
  node_fits nodes parent unknown = true
  node_fits nodes parent unknown_compare = true

  pub set_fits : List SchemaNode → Option ℕ → Nodes → Bool
  set_fits nodes parent none = true
  set_fits nodes parent (more node set) = node_fits nodes parent node && set_fits nodes parent set

abbrev pub filter_fits : List SchemaNode → Asked → Bool
filter_fits nodes all_rows = true
filter_fits nodes (of_set set) = set_fits nodes None set
