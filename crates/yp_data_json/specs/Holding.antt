-- What data in JSON says, whatever the order in which it is read: whether it is data of a schema, and which rows it holds (RFC 7951 sections 4 to 6).
use Rattle.std.specs.Prelude.{◌≡◌, ◌⊎◌, ℕ, List, [], ◌∷◌, false, Option, Some, None}
use Rattle.yp_base.specs.declared.atom.Atom.{Atom}
use Rattle.yp_base.specs.declared.leaf_type.LeafType.{LeafType}
use Rattle.yp_base.specs.declared.path.Seg.{Seg}
use Rattle.yp_base.specs.declared.row.Value.{Value}
use Rattle.yp_base.specs.declared.row.Value.TheVariants.{Atom as Plain, Member, Present}
use Rattle.yp_base.specs.declared.row.Row.{Row}
use Rattle.yp_value.specs.Json.{value_in}
use Rattle.yp_schema.specs.declared.schema.SchemaNode.{SchemaNode}
use Rattle.yp_schema.specs.declared.schema.Kind.{Kind}
use Rattle.yp_schema.specs.declared.schema.Kind.TheVariants.{Container, Presence, List as Listing, Leaf, LeafList}
use Rattle.yp_schema.specs.Nodes.{node_at, child_of, is_key, qualified_name}
use Rattle.serde_json.specs.Data.{Data, null, boolean, number, string, array, object, Items, no_items, item, Members, no_members, member}
use Rattle.serde_json.specs.Find.{get_member}
use Rattle.yp_data_json.specs.Reading.{below, row_at}
use Rattle.yp_base.specs.Paths.{last_segment, above_last}

-- ---- names

-- no object has two members of one name (RFC 7493 section 2.3)
abbrev mutual
  pub HasNamesOnce : Data → Type 0
  HasNamesOnce null = Unit {0}
  HasNamesOnce (boolean b) = Unit {0}
  HasNamesOnce (number x) = Unit {0}
  HasNamesOnce (string s) = Unit {0}
  HasNamesOnce (array ds) = ItemsHaveNamesOnce ds
  HasNamesOnce (object ms) = MembersHaveNamesOnce ms

  pub ItemsHaveNamesOnce : Items → Type 0
  ItemsHaveNamesOnce no_items = Unit {0}
  ItemsHaveNamesOnce (item d ds) = HasNamesOnce d × ItemsHaveNamesOnce ds

  pub MembersHaveNamesOnce : Members → Type 0
  MembersHaveNamesOnce no_members = Unit {0}
  MembersHaveNamesOnce (member name d ms) = (get_member name ms ≡ None) × HasNamesOnce d × MembersHaveNamesOnce ms

-- ---- values and keys

-- JSON is this value by a type (RFC 7951 section 6); where there is no type it is none
abbrev pub IsOfType : Option LeafType → Data → Value → Type 0
IsOfType None d value = ⊥
IsOfType (Some ty) d value = value_in ty d ≡ Some value

-- JSON is some value of the node's type
abbrev pub IsValue : List SchemaNode → ℕ → Data → Type 0
IsValue nodes n d = (value : Value) × IsOfType (node_at n nodes).ty d value

-- an object's member of the key leaf's name is this atom
abbrev pub HasKey : List SchemaNode → ℕ → Members → Atom → Type 0
HasKey nodes k ms atom = (d : Data) × (get_member (node_at k nodes).member ms ≡ Some d) × IsOfType (node_at k nodes).ty d (Plain atom)

-- an object has a member for each key leaf, and these are the atoms, one for each
abbrev pub HasKeyAtoms : List SchemaNode → List ℕ → Members → List Atom → Type 0
HasKeyAtoms nodes [] ms [] = Unit {0}
HasKeyAtoms nodes [] ms (atom ∷ atoms) = ⊥
HasKeyAtoms nodes (k ∷ ks) ms [] = ⊥
HasKeyAtoms nodes (k ∷ ks) ms (atom ∷ atoms) = HasKey nodes k ms atom × HasKeyAtoms nodes ks ms atoms

-- what is so of an object's members
abbrev pub IsObject : (Members → Type 0) → Data → Type 0
IsObject is (object ms) = is ms
IsObject is null = ⊥
IsObject is (boolean b) = ⊥
IsObject is (number x) = ⊥
IsObject is (string s) = ⊥
IsObject is (array ds) = ⊥

-- an entry of a list is told from the others by its keys (RFC 7950 section 7.8.2)
abbrev pub IsEntryWith : List SchemaNode → ℕ → Data → List Atom → Type 0
IsEntryWith nodes n d keys = IsObject (λ ms. HasKeyAtoms nodes (node_at n nodes).keys ms keys) d

-- and one of a leaf-list by its value (section 7.7)
abbrev pub IsAtomOf : List SchemaNode → ℕ → Data → Atom → Type 0
IsAtomOf nodes n d atom = IsOfType (node_at n nodes).ty d (Plain atom)

-- no item is told by this
abbrev pub NoneIs : {K : Type 0} → (Data → K → Type 0) → K → Items → Type 0
NoneIs is key no_items = Unit {0}
NoneIs is key (item d ds) = (is d key → ⊥) × NoneIs is key ds

-- no two items are told by the same
abbrev pub AreApart : {K : Type 0} → (Data → K → Type 0) → Items → Type 0
AreApart is no_items = Unit {0}
AreApart {K} is (item d ds) = ((key : K) → is d key → NoneIs is key ds) × AreApart is ds

-- ---- data of a schema

-- what is asked at a node of a kind
abbrev pub OfKind : Kind → Type 0 → Type 0 → Type 0 → Type 0 → Type 0
OfKind Container container list leaf leaf_list = container
OfKind Presence container list leaf leaf_list = container
OfKind Listing container list leaf leaf_list = list
OfKind Leaf container list leaf leaf_list = leaf
OfKind LeafList container list leaf leaf_list = leaf_list

-- each item is an atom of the leaf-list's type
abbrev pub AreAtomsOf : List SchemaNode → ℕ → Items → Type 0
AreAtomsOf nodes n no_items = Unit {0}
AreAtomsOf nodes n (item d ds) = ((atom : Atom) × IsAtomOf nodes n d atom) × AreAtomsOf nodes n ds

abbrev mutual
  -- each member of an object has the member form of a child, and is data of it
  pub AreMembersOf : List SchemaNode → Option ℕ → Members → Type 0
  AreMembersOf nodes parent no_members = Unit {0}
  AreMembersOf nodes parent (member name d ms) = ((n : ℕ) × (child_of parent name nodes ≡ Some n) × IsDataOf nodes n d) × AreMembersOf nodes parent ms

  -- a leaf is a value of its type (RFC 7951 section 5.1), a container an object (5.2), a leaf-list an array of values (5.3), a list an array of entries (5.4)
  pub IsDataOf : List SchemaNode → ℕ → Data → Type 0
  IsDataOf nodes n (object ms) = OfKind (node_at n nodes).kind (AreMembersOf nodes (Some n) ms) ⊥ (IsValue nodes n (object ms)) ⊥
  IsDataOf nodes n (array ds) =
      OfKind (node_at n nodes).kind ⊥
      (AreEntriesOf nodes n ds × AreApart (IsEntryWith nodes n) ds)
      (IsValue nodes n (array ds))
      (AreAtomsOf nodes n ds × AreApart (IsAtomOf nodes n) ds)
  IsDataOf nodes n null = OfKind (node_at n nodes).kind ⊥ ⊥ (IsValue nodes n null) ⊥
  IsDataOf nodes n (boolean b) = OfKind (node_at n nodes).kind ⊥ ⊥ (IsValue nodes n (boolean b)) ⊥
  IsDataOf nodes n (number x) = OfKind (node_at n nodes).kind ⊥ ⊥ (IsValue nodes n (number x)) ⊥
  IsDataOf nodes n (string s) = OfKind (node_at n nodes).kind ⊥ ⊥ (IsValue nodes n (string s)) ⊥

  pub AreEntriesOf : List SchemaNode → ℕ → Items → Type 0
  AreEntriesOf nodes n no_items = Unit {0}
  AreEntriesOf nodes n (item d ds) = IsEntryOf nodes n d × AreEntriesOf nodes n ds

  -- an entry is an object that has all its keys
  pub IsEntryOf : List SchemaNode → ℕ → Data → Type 0
  IsEntryOf nodes n (object ms) = ((keys : List Atom) × HasKeyAtoms nodes (node_at n nodes).keys ms keys) × AreMembersOf nodes (Some n) ms
  IsEntryOf nodes n null = ⊥
  IsEntryOf nodes n (boolean b) = ⊥
  IsEntryOf nodes n (number x) = ⊥
  IsEntryOf nodes n (string s) = ⊥
  IsEntryOf nodes n (array ds) = ⊥

-- ---- rows

-- a leaf's row
abbrev pub IsLeafRow : List SchemaNode → ℕ → List Seg → Data → Row → Type 0
IsLeafRow nodes n path d row = (value : Value) × IsOfType (node_at n nodes).ty d value × (row ≡ row_at (below path n []) value)

-- one for each value of a leaf-list
abbrev pub ValuesHold : List SchemaNode → ℕ → List Seg → Items → Row → Type 0
ValuesHold nodes n path no_items row = ⊥
ValuesHold nodes n path (item d ds) row = ((atom : Atom) × IsAtomOf nodes n d atom × (row ≡ row_at (below path n (atom ∷ [])) Member)) ⊎ ValuesHold nodes n path ds row

abbrev mutual
  -- a row of an object's members: a key has none of its own
  pub MembersHold : List SchemaNode → Option ℕ → List Seg → Members → Row → Type 0
  MembersHold nodes parent path no_members row = ⊥
  MembersHold nodes parent path (member name d ms) row =
      ((n : ℕ) × (child_of parent name nodes ≡ Some n) × (is_key n parent nodes ≡ false) × DataHolds nodes n path d row) ⊎ MembersHold nodes parent path ms row

  -- a row of a node's data: a container without presence has none of its own
  pub DataHolds : List SchemaNode → ℕ → List Seg → Data → Row → Type 0
  DataHolds nodes n path (object ms) row =
      (((node_at n nodes).kind ≡ Presence) × (row ≡ row_at (below path n []) Present)) ⊎ OfKind (node_at n nodes).kind (MembersHold nodes (Some n) (below path n []) ms row) ⊥ ⊥ ⊥
  DataHolds nodes n path (array ds) row = OfKind (node_at n nodes).kind ⊥ (EntriesHold nodes n path ds row) (IsLeafRow nodes n path (array ds) row) (ValuesHold nodes n path ds row)
  DataHolds nodes n path null row = OfKind (node_at n nodes).kind ⊥ ⊥ (IsLeafRow nodes n path null row) ⊥
  DataHolds nodes n path (boolean b) row = OfKind (node_at n nodes).kind ⊥ ⊥ (IsLeafRow nodes n path (boolean b) row) ⊥
  DataHolds nodes n path (number x) row = OfKind (node_at n nodes).kind ⊥ ⊥ (IsLeafRow nodes n path (number x) row) ⊥
  DataHolds nodes n path (string s) row = OfKind (node_at n nodes).kind ⊥ ⊥ (IsLeafRow nodes n path (string s) row) ⊥

  pub EntriesHold : List SchemaNode → ℕ → List Seg → Items → Row → Type 0
  EntriesHold nodes n path no_items row = ⊥
  EntriesHold nodes n path (item d ds) row = EntryHolds nodes n path d row ⊎ EntriesHold nodes n path ds row

  -- an entry has a row, at its keys, and those of its members
  pub EntryHolds : List SchemaNode → ℕ → List Seg → Data → Row → Type 0
  EntryHolds nodes n path (object ms) row =
      (keys : List Atom) × HasKeyAtoms nodes (node_at n nodes).keys ms keys × ((row ≡ row_at (below path n keys) Present) ⊎ MembersHold nodes (Some n) (below path n keys) ms row)
  EntryHolds nodes n path null row = ⊥
  EntryHolds nodes n path (boolean b) row = ⊥
  EntryHolds nodes n path (number x) row = ⊥
  EntryHolds nodes n path (string s) row = ⊥
  EntryHolds nodes n path (array ds) row = ⊥

-- ---- at a place

-- an array of one item
abbrev pub IsOneItem : (Data → Type 0) → Data → Type 0
IsOneItem is (array no_items) = ⊥
IsOneItem is (array (item d no_items)) = is d
IsOneItem is (array (item d (item e ds))) = ⊥
IsOneItem is null = ⊥
IsOneItem is (boolean b) = ⊥
IsOneItem is (number x) = ⊥
IsOneItem is (string s) = ⊥
IsOneItem is (object ms) = ⊥

-- data of what a path's last segment names: of a list one entry with its keys, of a leaf-list one entry with its value (RFC 8040 section 3.5.3)
abbrev pub IsNamed : List SchemaNode → Seg → Data → Type 0
IsNamed nodes seg d =
    OfKind (node_at seg.node nodes).kind
    (IsDataOf nodes seg.node d)
    (IsOneItem (λ e. IsEntryOf nodes seg.node e × IsEntryWith nodes seg.node e seg.keys) d)
    (IsDataOf nodes seg.node d)
    (IsOneItem (λ e. (atom : Atom) × IsAtomOf nodes seg.node e atom × (seg.keys ≡ atom ∷ [])) d)

-- one member, of the node's qualified name
abbrev pub IsOneMember : List SchemaNode → Seg → Members → Type 0
IsOneMember nodes seg no_members = ⊥
IsOneMember nodes seg (member name d no_members) = (name ≡ qualified_name (node_at seg.node nodes)) × IsNamed nodes seg d
IsOneMember nodes seg (member name d (member other e ms)) = ⊥

-- a row of some member
abbrev pub SomeHolds : List SchemaNode → ℕ → List Seg → Members → Row → Type 0
SomeHolds nodes n above no_members row = ⊥
SomeHolds nodes n above (member name d ms) row = DataHolds nodes n above d row ⊎ SomeHolds nodes n above ms row

-- data at a place: at the empty path of a whole datastore, an object of nodes at the top; at any other an object of the node that the path names
abbrev pub IsDataAt : List SchemaNode → List Seg → Data → Type 0
IsDataAt nodes [] d = IsObject (λ ms. AreMembersOf nodes None ms) d
IsDataAt nodes (seg ∷ rest) d = IsObject (λ ms. IsOneMember nodes (last_segment seg rest) ms) d

-- a row of data at a place
abbrev pub HoldsAt : List SchemaNode → List Seg → Data → Row → Type 0
HoldsAt nodes [] d row = IsObject (λ ms. MembersHold nodes None [] ms row) d
HoldsAt nodes (seg ∷ rest) d row = IsObject (λ ms. SomeHolds nodes (last_segment seg rest).node (above_last seg rest) ms row) d
