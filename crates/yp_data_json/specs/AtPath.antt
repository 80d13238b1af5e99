-- What a reader of the data at a path gives: those of one node, in an object with its qualified name (RFC 7951 section 4).
use Rattle.std.specs.Prelude.{ℕ, List, [], ◌∷◌, ◌++◌, Bool, true, false, Some, Result, Ok, Err, if◌then◌else◌, nat_eq}
use Rattle.std.specs.Cmp.Lexicographic.{pointwise}
use Rattle.std.specs.Ordering.{eq_by_cmp}
use Rattle.yp_base.specs.Order.{atom_cmp}
use Rattle.yp_base.specs.declared.atom.Atom.{Atom}
use Rattle.yp_base.specs.declared.path.Seg.{Seg}
use Rattle.yp_base.specs.declared.row.Value.TheVariants.{Member, Present}
use Rattle.yp_base.specs.declared.row.Row.{Row}
use Rattle.yp_schema.specs.declared.schema.SchemaNode.{SchemaNode}
use Rattle.yp_schema.specs.declared.schema.Kind.{Kind}
use Rattle.yp_schema.specs.declared.schema.Kind.TheVariants.{Container, Presence, List as Listing, Leaf, LeafList}
use Rattle.yp_schema.specs.Nodes.{node_at, qualified_name}
use Rattle.yp_schema.specs.Values.{typed_value, typed_atom}
use Rattle.serde_json.specs.Data.{Data, null, boolean, number, string, array, object, Items, no_items, item, Members, no_members, member}
use Rattle.yp_data_json.specs.declared.fault.DataFault.{DataFault}
use Rattle.yp_data_json.specs.declared.fault.DataFault.TheVariants.{UnknownElement, InvalidValue}
use Rattle.yp_base.specs.Results.{◌>>=◌}
use Rattle.yp_data_json.specs.Reading.{valid, row_at, keys_in, below, entered, members_read, node_read, datastore_read}

-- whether keys are those of the path
abbrev pub are_keys : List Atom → List Atom → Bool
are_keys found keys = pointwise (eq_by_cmp atom_cmp) found keys

-- the rows so far, with those of the list entry that a path names: its keys are the path's
abbrev pub named_entry : List SchemaNode → ℕ → List Seg → List Atom → Data → List Row → Result (List Row) DataFault
named_entry nodes n above keys (object ms) rows =
    keys_in nodes (node_at n nodes).keys ms >>= λ found.
    (if are_keys found keys then entered (below above n found) Present rows else Err InvalidValue) >>= λ after.
    members_read nodes (Some n) (below above n found) ms after
named_entry nodes n above keys null rows = Err InvalidValue
named_entry nodes n above keys (boolean b) rows = Err InvalidValue
named_entry nodes n above keys (number x) rows = Err InvalidValue
named_entry nodes n above keys (string s) rows = Err InvalidValue
named_entry nodes n above keys (array ds) rows = Err InvalidValue

-- with that of the leaf-list entry that a path names: its value is the path's
abbrev pub named_value : List SchemaNode → ℕ → List Seg → List Atom → Data → List Row → Result (List Row) DataFault
named_value nodes n above keys d rows =
    valid (typed_atom (node_at n nodes).ty d) >>= λ atom.
    if are_keys (atom ∷ []) keys then entered (below above n (atom ∷ [])) Member rows else Err InvalidValue

-- of an array of one what reading its item gives
abbrev pub one_of : {A : Type 0} → Items → (Data → Result A DataFault) → Result A DataFault
one_of no_items read = Err InvalidValue
one_of (item d no_items) read = read d
one_of (item d (item e ds)) read = Err InvalidValue

abbrev pub array_of_one : {A : Type 0} → Data → (Data → Result A DataFault) → Result A DataFault
array_of_one (array ds) read = one_of ds read
array_of_one null read = Err InvalidValue
array_of_one (boolean b) read = Err InvalidValue
array_of_one (number x) read = Err InvalidValue
array_of_one (string s) read = Err InvalidValue
array_of_one (object ms) read = Err InvalidValue

-- which of these is read at a node of a kind
abbrev pub by_kind : {A : Type 0} → Kind → A → A → A → A
by_kind Container list leaf_list other = other
by_kind Presence list leaf_list other = other
by_kind Listing list leaf_list other = list
by_kind Leaf list leaf_list other = other
by_kind LeafList list leaf_list other = leaf_list

-- the rows of a leaf: one, of its path
abbrev pub leaf_row : List SchemaNode → ℕ → List Seg → Data → Result (List Row) DataFault
leaf_row nodes n at d = valid (typed_value (node_at n nodes).ty d) >>= λ value. Ok (row_at at value ∷ [])

-- with those of the node that a path names
abbrev pub named_read : List SchemaNode → ℕ → List Seg → List Atom → Data → List Row → Result (List Row) DataFault
named_read nodes n above keys d rows = by_kind (node_at n nodes).kind
    (array_of_one d (λ e. named_entry nodes n above keys e rows))
    (array_of_one d (λ e. named_value nodes n above keys e rows))
    (node_read nodes n above d rows)

-- with those of the outer object's members: that of the node's qualified name, and any other is unknown
abbrev pub outer_read : List SchemaNode → ℕ → List Seg → List Atom → Members → List Row → Result (List Row) DataFault
outer_read nodes n above keys no_members rows = Ok rows
outer_read nodes n above keys (member name d ms) rows =
    (if pointwise nat_eq name (qualified_name (node_at n nodes)) then named_read nodes n above keys d rows else Err UnknownElement) >>= λ after.
    outer_read nodes n above keys ms after

abbrev pub has_no_members : Members → Bool
has_no_members no_members = true
has_no_members (member name d ms) = false

-- the rows at a path that ends in a node with these keys; an object without members has no value
abbrev pub object_read : List SchemaNode → ℕ → List Seg → List Atom → Data → Result (List Row) DataFault
object_read nodes n above keys (object ms) = if has_no_members ms then Err InvalidValue else outer_read nodes n above keys ms []
object_read nodes n above keys null = Err InvalidValue
object_read nodes n above keys (boolean b) = Err InvalidValue
object_read nodes n above keys (number x) = Err InvalidValue
object_read nodes n above keys (string s) = Err InvalidValue
object_read nodes n above keys (array ds) = Err InvalidValue

-- a path taken apart: its last segment, and those above it behind the ones taken so far
abbrev pub last_read : List SchemaNode → List Seg → Seg → List Seg → Data → Result (List Row) DataFault
last_read nodes above seg [] d = object_read nodes seg.node above seg.keys d
last_read nodes above seg (next ∷ segs) d = last_read nodes (above ++ seg ∷ []) next segs d

-- the rows that data at a path hold; the empty path is the whole datastore
abbrev pub rows_read : List SchemaNode → List Seg → Data → Result (List Row) DataFault
rows_read nodes [] d = datastore_read nodes d
rows_read nodes (seg ∷ segs) d = last_read nodes [] seg segs d
