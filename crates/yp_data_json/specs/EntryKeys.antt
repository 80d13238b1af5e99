-- The keys of a list entry among its other members (RFC 7951 section 5.4).
use Rattle.std.specs.Prelude.{◌≡◌, ℕ, ◌<◌, ◌≤◌, List, [], ◌∷◌, take, drop, length, true, Option}
use Rattle.std.specs.List.{AllByRecursion}
use Rattle.yp_base.specs.declared.row.Row.{Row}
use Rattle.yp_base.specs.Paths.{same_number}
use Rattle.yp_schema.specs.declared.schema.SchemaNode.{SchemaNode}
use Rattle.yp_schema.specs.declared.schema.Kind.TheVariants.{Leaf}
use Rattle.yp_schema.specs.Nodes.{node_at}
use Rattle.yp_schema.specs.Datastore.{is_key_node}
use Rattle.serde_json.specs.Data.{Data, Members, member, put}
use Rattle.yp_data_json.specs.declared.entry_keys.Key.{Key}
use Rattle.yp_data_json.specs.Writing.{key_data}
use Rattle.yp_data_json.specs.Runs.{AreBelow}

-- the name of a key's member, and its JSON
abbrev pub key_name : List SchemaNode → Key → List ℕ
key_name nodes key = (node_at key.leaf nodes).member

abbrev pub key_json : List SchemaNode → Key → Data
key_json nodes key = key_data (node_at key.leaf nodes).ty key.value.now

-- members with keys put among them
abbrev pub among : List SchemaNode → List Key → Members → Members
among nodes [] ms = ms
among nodes (key ∷ keys) ms = put (key_name nodes key) (key_json nodes key) (among nodes keys ms)

-- keys, one after another, and then these members
abbrev pub followed_by : List SchemaNode → List Key → Members → Members
followed_by nodes [] ms = ms
followed_by nodes (key ∷ keys) ms = member (key_name nodes key) (key_json nodes key) (followed_by nodes keys ms)

-- a key of a list's entry: a leaf below the list that is one of its keys
pub record IsKeyBelow (nodes : List SchemaNode) (parent : Option ℕ) (key : Key) : Type 0 where
  pub within : key.leaf < length nodes
  pub child : same_number (node_at key.leaf nodes).parent parent ≡ true
  pub kind : (node_at key.leaf nodes).kind ≡ Leaf
  pub named : is_key_node nodes key.leaf ≡ true

-- keys in the order of their leaves
abbrev pub AreAscending : List Key → Type 0
AreAscending [] = Unit {0}
AreAscending (key ∷ keys) = AllByRecursion (λ other. key.leaf < other.leaf) keys × AreAscending keys

-- keys before a place are of earlier leaves, and those from it on are not
pub record IsPlaceOf (leaf : ℕ) (keys : List Key) (place : ℕ) : Type 0 where
  pub within : place ≤ length keys
  pub before : AllByRecursion (λ key. key.leaf < leaf) (take place keys)
  pub after : AllByRecursion (λ key. leaf ≤ key.leaf) (drop place keys)

-- rows that go on below one node, and keys of that node's entry
abbrev pub GoOnWithKeys : List SchemaNode → ℕ → List Row → List Key → Type 0
GoOnWithKeys nodes depth rows keys = (parent : Option ℕ) × (AreBelow nodes parent depth rows × AllByRecursion (IsKeyBelow nodes parent) keys)
