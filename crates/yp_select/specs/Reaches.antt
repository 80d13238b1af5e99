-- Where the rows that a filter keeps can be, told from the filter alone: at some paths, and at or below others.
use Rattle.std.specs.Prelude.{◌≡◌, ℕ, List, [], ◌∷◌, ◌++◌, Bool, true, false, ◌&&◌, ◌||◌, nat_eq, nat_lt, length, Option, Some, None, is_some, if◌then◌else◌}
use Rattle.std.specs.List.{list_any, AllByRecursion}
use Rattle.std.specs.Ordering.{is_eq}
use Rattle.yp_base.specs.declared.atom.Atom.{Atom}
use Rattle.yp_base.specs.declared.path.Seg.{Seg}
use Rattle.yp_base.specs.declared.row.Row.{Row}
use Rattle.yp_base.specs.Order.{path_cmp, is_within}
use Rattle.yp_base.specs.Rows.{value_at}
use Rattle.yp_schema.specs.declared.schema.SchemaNode.{SchemaNode}
use Rattle.yp_schema.specs.Nodes.{node_at}
use Rattle.yp_filter.specs.Filters.{Node, Nodes, select, compare, within, unknown, unknown_compare, none, more}
use Rattle.yp_kept.specs.Matches.{atom_in, either_of}
use Rattle.yp_kept.specs.Selection.{enters_by}

-- ---- sets that ask for one entry

-- the atom that a node asks for of a key, where it is a match node
abbrev pub node_key : ℕ → Node → Option Atom
node_key key (select n) = None
node_key key (compare n value) = if nat_eq n key then atom_in (Some value) else None
node_key key (within n set) = None
node_key key unknown = None
node_key key unknown_compare = None

-- the first atom that a set asks for of a key
abbrev pub key_asked : ℕ → Nodes → Option Atom
key_asked key none = None
key_asked key (more node set) = either_of (node_key key node) (key_asked key set)

-- whether a set asks for an atom of each key
abbrev pub asks_keys : List ℕ → Nodes → Bool
asks_keys [] set = true
asks_keys (key ∷ keys) set = is_some (key_asked key set) && asks_keys keys set

-- an atom, where there is one, and then others
abbrev pub onto : Option Atom → List Atom → List Atom
onto None atoms = atoms
onto (Some atom) atoms = atom ∷ atoms

-- the atoms that a set asks for of keys
abbrev pub entry_keys : List ℕ → Nodes → List Atom
entry_keys [] set = []
entry_keys (key ∷ keys) set = onto (key_asked key set) (entry_keys keys set)

-- whether a containment node is of one instance: of a container, or of the list entry whose keys its set asks for
abbrev pub names_one : List SchemaNode → ℕ → Nodes → Bool
names_one nodes n set = enters_by (node_at n nodes).kind (asks_keys (node_at n nodes).keys set)

-- the last segment of this instance
abbrev pub way_segment : List SchemaNode → ℕ → Nodes → Seg
way_segment nodes n set = record { node = n; keys = entry_keys (node_at n nodes).keys set }

-- ---- reaches

-- whether a node keeps nothing but what is in one instance
abbrev pub is_narrow : List SchemaNode → Node → Bool
is_narrow nodes (select n) = false
is_narrow nodes (compare n value) = false
is_narrow nodes (within n set) = names_one nodes n set
is_narrow nodes unknown = true
is_narrow nodes unknown_compare = false

abbrev pub are_narrow : List SchemaNode → Nodes → Bool
are_narrow nodes none = true
are_narrow nodes (more node set) = is_narrow nodes node && are_narrow nodes set

-- the paths whose own rows a set at an instance can keep: where all its nodes are narrow, those of these nodes, and the instance
abbrev pub own_by : Bool → List Seg → List (List Seg) → List (List Seg)
own_by true at inner = inner ++ at ∷ []
own_by false at inner = []

abbrev mutual
  pub own_of_node : List SchemaNode → Node → List Seg → List (List Seg)
  own_of_node nodes (select n) at = []
  own_of_node nodes (compare n value) at = []
  own_of_node nodes (within n set) at = own_by (are_narrow nodes set) (at ++ way_segment nodes n set ∷ []) (own_of_nodes nodes set (at ++ way_segment nodes n set ∷ []))
  own_of_node nodes unknown at = []
  own_of_node nodes unknown_compare at = []

  pub own_of_nodes : List SchemaNode → Nodes → List Seg → List (List Seg)
  own_of_nodes nodes none at = []
  own_of_nodes nodes (more node set) at = own_of_node nodes node at ++ own_of_nodes nodes set at

abbrev pub own_reached : List SchemaNode → Nodes → List Seg → List (List Seg)
own_reached nodes set at = own_by (are_narrow nodes set) at (own_of_nodes nodes set at)

-- the paths at or below which it can keep any row: where all its nodes are narrow, those of these nodes, and else the instance
abbrev pub below_by : Bool → List Seg → List (List Seg) → List (List Seg)
below_by true at inner = inner
below_by false at inner = at ∷ []

abbrev mutual
  pub below_of_node : List SchemaNode → Node → List Seg → List (List Seg)
  below_of_node nodes (select n) at = []
  below_of_node nodes (compare n value) at = []
  below_of_node nodes (within n set) at = below_by (are_narrow nodes set) (at ++ way_segment nodes n set ∷ []) (below_of_nodes nodes set (at ++ way_segment nodes n set ∷ []))
  below_of_node nodes unknown at = []
  below_of_node nodes unknown_compare at = []

  pub below_of_nodes : List SchemaNode → Nodes → List Seg → List (List Seg)
  below_of_nodes nodes none at = []
  below_of_nodes nodes (more node set) at = below_of_node nodes node at ++ below_of_nodes nodes set at

abbrev pub below_reached : List SchemaNode → Nodes → List Seg → List (List Seg)
below_reached nodes set at = below_by (are_narrow nodes set) at (below_of_nodes nodes set at)

-- ---- what is reached

-- whether a path is one of these
abbrev pub is_one_of : List (List Seg) → List Seg → Bool
is_one_of paths path = list_any (λ each. is_eq (path_cmp path each)) paths

-- whether a path is at or below one of these
abbrev pub is_below : List (List Seg) → List Seg → Bool
is_below paths path = list_any (λ each. is_within each path) paths

abbrev pub is_reached : List (List Seg) → List (List Seg) → List Seg → Bool
is_reached own below path = is_one_of own path || is_below below path

-- none of these paths is at or below another
abbrev pub StandApart : List (List Seg) → Type 0
StandApart [] = Unit {0}
StandApart (path ∷ paths) = AllByRecursion (λ other. is_within path other ≡ false) paths × AllByRecursion (λ other. is_within other path ≡ false) paths × StandApart paths

-- rows are those of a datastore at whose paths a test holds
abbrev pub AreThose : (List Seg → Bool) → List Row → List Row → Type 0
AreThose test all rows = (path : List Seg) → value_at path rows ≡ (if test path then value_at path all else None)

-- ---- filters of a schema

-- whether the nodes that sets stand at are the schema's
abbrev mutual
  pub node_stands : List SchemaNode → Node → Bool
  node_stands nodes (select n) = true
  node_stands nodes (compare n value) = true
  node_stands nodes (within n set) = nat_lt n (length nodes) && set_stands nodes set
  node_stands nodes unknown = true
  node_stands nodes unknown_compare = true

  pub set_stands : List SchemaNode → Nodes → Bool
  set_stands nodes none = true
  set_stands nodes (more node set) = node_stands nodes node && set_stands nodes set
