-- What is of a schema: paths (RFC 8040 section 3.5.3), rows, and datastores (RFC 8342 section 4.1), which are lists of rows.
use Rattle.std.specs.Prelude.{◌≡◌, ℕ, List, [], ◌∷◌, ◌++◌, length, Bool, true, false, not, ◌&&◌, nat_lt, Option, Some, None, is_some}
use Rattle.std.specs.List.{AllByRecursion}
use Rattle.yp_base.specs.declared.atom.Atom.{Atom}
use Rattle.yp_base.specs.declared.leaf_type.LeafType.{LeafType}
use Rattle.yp_base.specs.declared.path.Seg.{Seg}
use Rattle.yp_base.specs.declared.row.Value.{Value}
use Rattle.yp_base.specs.declared.row.Value.TheVariants.{Atom as Plain, Member, Empty, Present}
use Rattle.yp_base.specs.declared.row.Row.{Row}
use Rattle.yp_base.specs.Order.{is_within}
use Rattle.yp_base.specs.Rows.{AreInOrder, value_at}
use Rattle.yp_value.specs.Texts.{fits}
use Rattle.yp_value.specs.Json.{value_fits}
use Rattle.yp_schema.specs.declared.schema.SchemaNode.{SchemaNode}
use Rattle.yp_schema.specs.declared.schema.Kind.{Kind}
use Rattle.yp_schema.specs.declared.schema.Kind.TheVariants.{Container, Presence, List as Listing, Leaf, LeafList}
use Rattle.yp_base.specs.Paths.{last_node, same_number}
use Rattle.yp_schema.specs.Nodes.{node_at, is_key}
use Rattle.yp_schema.specs.WellFormed.{is_empty}

-- ---- paths

-- whether an atom is a value of this type, where there is a type
abbrev pub atom_fits : Option LeafType → Atom → Bool
atom_fits None atom = false
atom_fits (Some ty) atom = fits ty atom

-- one atom for each key leaf, of its type
abbrev pub keys_fit : List SchemaNode → List ℕ → List Atom → Bool
keys_fit nodes [] [] = true
keys_fit nodes [] (atom ∷ atoms) = false
keys_fit nodes (k ∷ ks) [] = false
keys_fit nodes (k ∷ ks) (atom ∷ atoms) = atom_fits (node_at k nodes).ty atom && keys_fit nodes ks atoms

-- one atom, of this type
abbrev pub one_fits : Option LeafType → List Atom → Bool
one_fits ty [] = false
one_fits ty (atom ∷ []) = atom_fits ty atom
one_fits ty (atom ∷ other ∷ atoms) = false

-- the keys that a node of a kind asks for: of a list its keys, of a leaf-list its value, of any other none
abbrev pub keys_of_kind : Kind → List SchemaNode → SchemaNode → List Atom → Bool
keys_of_kind Container nodes node atoms = is_empty atoms
keys_of_kind Presence nodes node atoms = is_empty atoms
keys_of_kind Listing nodes node atoms = keys_fit nodes node.keys atoms
keys_of_kind Leaf nodes node atoms = is_empty atoms
keys_of_kind LeafList nodes node atoms = one_fits node.ty atoms

-- a segment of a node, with the keys that it asks for
abbrev pub is_segment : List SchemaNode → Seg → Bool
is_segment nodes seg = nat_lt seg.node (length nodes) && keys_of_kind (node_at seg.node nodes).kind nodes (node_at seg.node nodes) seg.keys

-- each segment's node is a child of the one before, the first one's of `parent`
abbrev pub goes_down : List SchemaNode → Option ℕ → List Seg → Bool
goes_down nodes parent [] = true
goes_down nodes parent (seg ∷ segs) = same_number (node_at seg.node nodes).parent parent && is_segment nodes seg && goes_down nodes (Some seg.node) segs

-- a path of a schema: it isn't empty and goes down from the top
abbrev pub is_path_of : List SchemaNode → List Seg → Bool
is_path_of nodes [] = false
is_path_of nodes (seg ∷ segs) = goes_down nodes None (seg ∷ segs)

-- whether a node is a key of the node above
abbrev pub is_key_node : List SchemaNode → ℕ → Bool
is_key_node nodes n = is_key n (node_at n nodes).parent nodes

abbrev pub is_key_at : List SchemaNode → Option ℕ → Bool
is_key_at nodes None = false
is_key_at nodes (Some n) = is_key_node nodes n

-- whether a path ends in a key leaf
abbrev pub ends_in_key : List SchemaNode → List Seg → Bool
ends_in_key nodes path = is_key_at nodes (last_node path)

-- where data may stand: at the top, which is the empty path, or at a path that ends in no key leaf
abbrev pub is_place : List SchemaNode → List Seg → Bool
is_place nodes [] = true
is_place nodes (seg ∷ segs) = is_path_of nodes (seg ∷ segs) && not (ends_in_key nodes (seg ∷ segs))

-- ---- rows

abbrev pub is_present : Value → Bool
is_present (Plain atom) = false
is_present Member = false
is_present Empty = false
is_present Present = true

abbrev pub is_member : Value → Bool
is_member (Plain atom) = false
is_member Member = true
is_member Empty = false
is_member Present = false

-- whether a value is one of this type, where there is a type
abbrev pub typed_fits : Option LeafType → Value → Bool
typed_fits None value = false
typed_fits (Some ty) value = value_fits ty value

-- the value of a row by the kind of its node; a container without presence has none
abbrev pub value_of_kind : Kind → Option LeafType → Value → Bool
value_of_kind Container ty value = false
value_of_kind Presence ty value = is_present value
value_of_kind Listing ty value = is_present value
value_of_kind Leaf ty value = typed_fits ty value
value_of_kind LeafList ty value = is_member value

-- whether a row of this value may end in this segment, which has the keys that its node asks for; none ends in a key leaf
abbrev pub may_end : List SchemaNode → Seg → Value → Bool
may_end nodes seg value = is_segment nodes seg && (not (is_key_node nodes seg.node) && value_of_kind (node_at seg.node nodes).kind (node_at seg.node nodes).ty value)

-- whether segments go down to the end of a row of this value, the first one's node being a child of `parent`
abbrev pub goes_to_row : List SchemaNode → Option ℕ → List Seg → Value → Bool
goes_to_row nodes parent [] value = false
goes_to_row nodes parent (seg ∷ []) value = same_number (node_at seg.node nodes).parent parent && may_end nodes seg value
goes_to_row nodes parent (seg ∷ next ∷ segs) value = same_number (node_at seg.node nodes).parent parent && is_segment nodes seg && goes_to_row nodes (Some seg.node) (next ∷ segs) value

-- a row of a schema: its path goes down from the top to where a row of its value may end
pub record IsRowOf (nodes : List SchemaNode) (row : Row) : Type 0 where
  pub goes : goes_to_row nodes None row.path row.value ≡ true

-- ---- lists of rows

abbrev pub is_entry_kind : Kind → Bool
is_entry_kind Container = false
is_entry_kind Presence = true
is_entry_kind Listing = true
is_entry_kind Leaf = false
is_entry_kind LeafList = false

abbrev pub is_leaf_kind : Kind → Bool
is_leaf_kind Container = false
is_leaf_kind Presence = false
is_leaf_kind Listing = false
is_leaf_kind Leaf = true
is_leaf_kind LeafList = true

-- a test of the kind of the last segment's node, where there is one
abbrev pub last_kind_is : (Kind → Bool) → List SchemaNode → Option ℕ → Bool
last_kind_is test nodes None = false
last_kind_is test nodes (Some n) = test (node_at n nodes).kind

-- whether a path ends in a list entry or a presence container
abbrev pub ends_in_entry : List SchemaNode → List Seg → Bool
ends_in_entry nodes path = last_kind_is is_entry_kind nodes (last_node path)

-- whether a path ends in a leaf or a leaf-list entry
abbrev pub ends_in_leaf : List SchemaNode → List Seg → Bool
ends_in_leaf nodes path = last_kind_is is_leaf_kind nodes (last_node path)

-- whether there is a row of this path
abbrev pub has_row : List Seg → List Row → Bool
has_row path rows = is_some (value_at path rows)

-- each list entry and presence container at or below `at` and above a row is itself a row
abbrev pub HaveEntries : List SchemaNode → List Seg → List Row → Type 0
HaveEntries nodes at rows =
    (above rest : List Seg) → is_within at above ≡ true → ends_in_entry nodes above ≡ true → has_row (above ++ rest) rows ≡ true → has_row above rows ≡ true

-- a datastore of a schema
pub record IsDatastore (nodes : List SchemaNode) (rows : List Row) : Type 0 where
  pub in_order : AreInOrder rows
  pub of_schema : AllByRecursion (IsRowOf nodes) rows
  pub entries : HaveEntries nodes [] rows

-- rows at or below a place, as an update or an edit holds them; where the place is a leaf or a leaf-list entry, its row is there
pub record AreWritable (nodes : List SchemaNode) (at : List Seg) (rows : List Row) : Type 0 where
  pub place : is_place nodes at ≡ true
  pub in_order : AreInOrder rows
  pub of_schema : AllByRecursion (IsRowOf nodes) rows
  pub within : AllByRecursion (λ row. is_within at row.path ≡ true) rows
  pub leaf : ends_in_leaf nodes at ≡ true → has_row at rows ≡ true

-- all rows of what stands at a place: besides, the place's own row is there, unless it is the top or a container without presence, and the rows of the entries below it
pub record AreWhole (nodes : List SchemaNode) (at : List Seg) (rows : List Row) : Type 0 where
  pub writable : AreWritable nodes at rows
  pub own : ends_in_entry nodes at ≡ true → has_row at rows ≡ true
  pub entries : HaveEntries nodes at rows
