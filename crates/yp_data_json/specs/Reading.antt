-- What a reader of data in JSON gives: the rows that the data of a datastore hold, or the first fault (RFC 7951 sections 4 to 6).
-- Members are visited in byte order of their names, depth first, arrays in order, and an entry's keys before its other members.
use Rattle.std.specs.Prelude.{◌≡◌, ℕ, List, [], ◌∷◌, ◌++◌, Option, Some, None, is_some, Result, Ok, Err, if◌then◌else◌}
use Rattle.std.specs.Cmp.Lexicographic.{slice_cmp}
use Rattle.std.specs.Ordering.{nat_cmp, is_lt}
use Rattle.yp_base.specs.declared.atom.Atom.{Atom}
use Rattle.yp_base.specs.declared.leaf_type.LeafType.{LeafType}
use Rattle.yp_base.specs.declared.path.Seg.{Seg}
use Rattle.yp_base.specs.declared.row.Value.{Value}
use Rattle.yp_base.specs.declared.row.Value.TheVariants.{Member, Present}
use Rattle.yp_base.specs.declared.row.Row.{Row}
use Rattle.yp_base.specs.Results.{◌>>=◌, or_fault}
use Rattle.yp_base.specs.Rows.{put_row, value_at}
use Rattle.yp_schema.specs.declared.schema.SchemaNode.{SchemaNode}
use Rattle.yp_schema.specs.declared.schema.Kind.{Kind}
use Rattle.yp_schema.specs.declared.schema.Kind.TheVariants.{Container, Presence, List as Listing, Leaf, LeafList}
use Rattle.yp_schema.specs.Nodes.{node_at, child_of, is_key}
use Rattle.yp_schema.specs.Values.{typed_value, typed_atom}
use Rattle.serde_json.specs.Data.{Data, null, boolean, number, string, array, object, Items, no_items, item, Members, no_members, member}
use Rattle.serde_json.specs.Find.{get_member}
use Rattle.yp_data_json.specs.declared.fault.DataFault.{DataFault}
use Rattle.yp_data_json.specs.declared.fault.DataFault.TheVariants.{UnknownElement, InvalidValue, MissingKey, RepeatedKey, Memory}

-- ---- what a call answers

-- a fault is that of the reading, but where memory ran out
abbrev pub Fails : {X : Type 0} → DataFault → Result X DataFault → Type 0
Fails UnknownElement read = read ≡ Err UnknownElement
Fails InvalidValue read = read ≡ Err InvalidValue
Fails MissingKey read = read ≡ Err MissingKey
Fails RepeatedKey read = read ≡ Err RepeatedKey
Fails Memory read = Unit {0}

-- what is answered is what the reading gives
abbrev pub Gives : {X : Type 0} → Result X DataFault → Result X DataFault → Type 0
Gives (Ok x) read = read ≡ Ok x
Gives (Err e) read = Fails e read

-- what was left of the rows is what the reading gives
abbrev pub Leaves : {X : Type 0} → Result X DataFault → List Row → Result (List Row) DataFault → Type 0
Leaves (Ok x) after read = read ≡ Ok after
Leaves (Err e) after read = Fails e read

-- ---- values

-- what is no value of the type is invalid
abbrev pub valid : {X : Type 0} → Option X → Result X DataFault
valid found = or_fault InvalidValue found

-- ---- keys

-- a key of an entry
abbrev pub key_in : Option LeafType → Option Data → Result Atom DataFault
key_in ty None = Err MissingKey
key_in ty (Some d) = valid (typed_atom ty d)

-- a fault, with the key leaf that it was found at
abbrev pub KeyFault : Type 0
KeyFault = ℕ × DataFault

abbrev pub at_key : {X : Type 0} → ℕ → Result X DataFault → Result X KeyFault
at_key k (Ok x) = Ok x
at_key k (Err e) = Err (k, e)

-- of two faults that at the key whose name comes first in byte order
abbrev pub earlier_fault : List SchemaNode → KeyFault → KeyFault → KeyFault
earlier_fault nodes one other = if is_lt (slice_cmp nat_cmp (node_at other.0 nodes).member (node_at one.0 nodes).member) then other else one

-- that among a first one, where there is one, and another
abbrev pub earliest : List SchemaNode → Option KeyFault → KeyFault → KeyFault
earliest nodes None other = other
earliest nodes (Some one) other = earlier_fault nodes one other

-- one key and the others
abbrev pub with_key : List SchemaNode → Result Atom KeyFault → Result (List Atom) KeyFault → Result (List Atom) KeyFault
with_key nodes (Ok atom) (Ok atoms) = Ok (atom ∷ atoms)
with_key nodes (Ok atom) (Err fault) = Err fault
with_key nodes (Err fault) (Ok atoms) = Err fault
with_key nodes (Err one) (Err other) = Err (earlier_fault nodes one other)

-- the keys of an entry in the order of the schema, or the fault that is the first in byte order of the keys' names
abbrev pub keys_found : List SchemaNode → List ℕ → Members → Result (List Atom) KeyFault
keys_found nodes [] ms = Ok []
keys_found nodes (k ∷ ks) ms = with_key nodes (at_key k (key_in (node_at k nodes).ty (get_member (node_at k nodes).member ms))) (keys_found nodes ks ms)

abbrev pub fault_alone : {X : Type 0} → Result X KeyFault → Result X DataFault
fault_alone (Ok x) = Ok x
fault_alone (Err fault) = Err fault.1

abbrev pub keys_in : List SchemaNode → List ℕ → Members → Result (List Atom) DataFault
keys_in nodes ks ms = fault_alone (keys_found nodes ks ms)

-- ---- rows

-- the path of a node below another, with its keys
abbrev pub below : List Seg → ℕ → List Atom → List Seg
below path node keys = path ++ record { node = node; keys = keys } ∷ []

abbrev pub row_at : List Seg → Value → Row
row_at path value = record { path = path; value = value }

-- the rows so far, with that of a leaf
abbrev pub leaf_read : List SchemaNode → ℕ → List Seg → Data → List Row → Result (List Row) DataFault
leaf_read nodes n path d rows = valid (typed_value (node_at n nodes).ty d) >>= λ value. Ok (put_row (row_at (below path n []) value) rows)

-- with that of an entry, of which there is none yet
abbrev pub entered : List Seg → Value → List Row → Result (List Row) DataFault
entered path value rows = if is_some (value_at path rows) then Err RepeatedKey else Ok (put_row (row_at path value) rows)

-- with that of a leaf-list entry
abbrev pub value_read : List SchemaNode → ℕ → List Seg → Data → List Row → Result (List Row) DataFault
value_read nodes n path d rows = valid (typed_atom (node_at n nodes).ty d) >>= λ atom. entered (below path n (atom ∷ [])) Member rows

-- with those of a leaf-list
abbrev pub leaf_list_read : List SchemaNode → ℕ → List Seg → Items → List Row → Result (List Row) DataFault
leaf_list_read nodes n path no_items rows = Ok rows
leaf_list_read nodes n path (item d ds) rows = value_read nodes n path d rows >>= λ after. leaf_list_read nodes n path ds after

-- which of these stands for an object at a node of a kind
abbrev pub in_object : {A : Type 0} → Kind → A → A → A → A
in_object Container container presence other = container
in_object Presence container presence other = presence
in_object Listing container presence other = other
in_object Leaf container presence other = other
in_object LeafList container presence other = other

-- which for an array; that of a leaf may be a value of type empty
abbrev pub in_array : {A : Type 0} → Kind → A → A → A → A → A
in_array Container list leaf leaf_list other = other
in_array Presence list leaf leaf_list other = other
in_array Listing list leaf leaf_list other = list
in_array Leaf list leaf leaf_list other = leaf
in_array LeafList list leaf leaf_list other = leaf_list

-- which for any other JSON
abbrev pub in_plain : {A : Type 0} → Kind → A → A → A
in_plain Container leaf other = other
in_plain Presence leaf other = other
in_plain Listing leaf other = other
in_plain Leaf leaf other = leaf
in_plain LeafList leaf other = other

abbrev pub plain_read : List SchemaNode → ℕ → List Seg → Data → List Row → Result (List Row) DataFault
plain_read nodes n path d rows = in_plain (node_at n nodes).kind (leaf_read nodes n path d rows) (Err InvalidValue)

abbrev pub for_child : {A : Type 0} → Option ℕ → A → (ℕ → A) → A
for_child None unknown known = unknown
for_child (Some n) unknown known = known n

abbrev mutual
  -- the rows so far, with those of an object's members; its keys are read before
  pub members_read : List SchemaNode → Option ℕ → List Seg → Members → List Row → Result (List Row) DataFault
  members_read nodes parent path no_members rows = Ok rows
  members_read nodes parent path (member name d ms) rows =
      for_child (child_of parent name nodes) (Err UnknownElement) (λ n.
      if is_key n parent nodes then Ok rows else node_read nodes n path d rows) >>= λ after.
      members_read nodes parent path ms after

  -- with those of a node
  pub node_read : List SchemaNode → ℕ → List Seg → Data → List Row → Result (List Row) DataFault
  node_read nodes n path null rows = plain_read nodes n path null rows
  node_read nodes n path (boolean b) rows = plain_read nodes n path (boolean b) rows
  node_read nodes n path (number x) rows = plain_read nodes n path (number x) rows
  node_read nodes n path (string s) rows = plain_read nodes n path (string s) rows
  node_read nodes n path (array ds) rows = in_array (node_at n nodes).kind
      (entries_read nodes n path ds rows)
      (leaf_read nodes n path (array ds) rows)
      (leaf_list_read nodes n path ds rows)
      (Err InvalidValue)
  node_read nodes n path (object ms) rows = in_object (node_at n nodes).kind
      (members_read nodes (Some n) (below path n []) ms rows)
      (members_read nodes (Some n) (below path n []) ms (put_row (row_at (below path n []) Present) rows))
      (Err InvalidValue)

  -- with those of the entries of a list
  pub entries_read : List SchemaNode → ℕ → List Seg → Items → List Row → Result (List Row) DataFault
  entries_read nodes n path no_items rows = Ok rows
  entries_read nodes n path (item d ds) rows = entry_read nodes n path d rows >>= λ after. entries_read nodes n path ds after

  -- with those of an entry
  pub entry_read : List SchemaNode → ℕ → List Seg → Data → List Row → Result (List Row) DataFault
  entry_read nodes n path null rows = Err InvalidValue
  entry_read nodes n path (boolean b) rows = Err InvalidValue
  entry_read nodes n path (number x) rows = Err InvalidValue
  entry_read nodes n path (string s) rows = Err InvalidValue
  entry_read nodes n path (array ds) rows = Err InvalidValue
  entry_read nodes n path (object ms) rows =
      keys_in nodes (node_at n nodes).keys ms >>= λ keys.
      entered (below path n keys) Present rows >>= λ after.
      members_read nodes (Some n) (below path n keys) ms after

-- the rows of a whole datastore
abbrev pub datastore_read : List SchemaNode → Data → Result (List Row) DataFault
datastore_read nodes (object ms) = members_read nodes None [] ms []
datastore_read nodes null = Err InvalidValue
datastore_read nodes (boolean b) = Err InvalidValue
datastore_read nodes (number x) = Err InvalidValue
datastore_read nodes (string s) = Err InvalidValue
datastore_read nodes (array ds) = Err InvalidValue
