-- The JSON of rows (RFC 7951 sections 4 to 6).
use Rattle.std.specs.Prelude.{ℕ, List, [], ◌∷◌, length, map, Option, Some, None, if◌then◌else◌, nat_eq}
use Rattle.yp_base.specs.declared.atom.Atom.{Atom}
use Rattle.yp_base.specs.declared.leaf_type.LeafType.{LeafType}
use Rattle.yp_base.specs.declared.path.Seg.{Seg}
use Rattle.yp_base.specs.declared.row.Value.{Value}
use Rattle.yp_base.specs.declared.row.Value.TheVariants.{Atom as Plain}
use Rattle.yp_base.specs.declared.row.Row.{Row}
use Rattle.yp_value.specs.Json.{value_data}
use Rattle.yp_base.specs.Paths.{last_segment}
use Rattle.yp_base.specs.Rows.{value_at}
use Rattle.yp_schema.specs.declared.schema.SchemaNode.{SchemaNode}
use Rattle.yp_schema.specs.declared.schema.Kind.{Kind}
use Rattle.yp_schema.specs.declared.schema.Kind.TheVariants.{Container, Presence, List as Listing, Leaf, LeafList}
use Rattle.yp_schema.specs.Nodes.{node_at, qualified_name}
use Rattle.serde_json.specs.Data.{Data, null, array, object, no_items, item, Members, no_members, member, put}
use Rattle.serde_json.specs.View.{items_of}
use Rattle.yp_data_json.specs.Forest.{Forest, bare, branch, forest_at}

-- the JSON of a leaf's value; no value is written of what has no row
abbrev pub leaf_data : Option LeafType → Option Value → Data
leaf_data None own = null
leaf_data (Some ty) None = null
leaf_data (Some ty) (Some value) = value_data ty value

-- the JSON of a key, or of the value of a leaf-list entry
abbrev pub key_data : Option LeafType → Atom → Data
key_data ty key = leaf_data ty (Some (Plain key))

-- the value of a leaf-list entry is its one key
abbrev pub one_key_data : Option LeafType → List Atom → Data
one_key_data ty [] = null
one_key_data ty (key ∷ keys) = key_data ty key

-- the keys, each put among an entry's members
abbrev pub with_keys : List SchemaNode → List ℕ → List Atom → Members → Members
with_keys nodes [] keys ms = ms
with_keys nodes (k ∷ ks) [] ms = ms
with_keys nodes (k ∷ ks) (key ∷ keys) ms = with_keys nodes ks keys (put (node_at k nodes).member (key_data (node_at k nodes).ty key) ms)

-- the JSON of one list entry or leaf-list entry
abbrev pub item_data : List SchemaNode → Kind → SchemaNode → Seg → Members → Data
item_data nodes Listing node seg kids = object (with_keys nodes node.keys seg.keys kids)
item_data nodes LeafList node seg kids = one_key_data node.ty seg.keys
item_data nodes Container node seg kids = null
item_data nodes Presence node seg kids = null
item_data nodes Leaf node seg kids = null

-- ---- the members of an object

-- an entry of a list or leaf-list: its keys, and its JSON
pub record Entry : Type 0 where
  pub keys : List Atom
  pub json : Data

-- what is written of the nodes of an object, one after another: of each node its one value, or its entries
pub data Gathered : Type 0 where
  no_nodes : Gathered
  single : ℕ → Data → Gathered → Gathered
  entries : ℕ → List Entry → Gathered → Gathered

-- one more entry in front: of the first node where that is its own, else of a new first node
abbrev pub entry_in_front : ℕ → Entry → Gathered → Gathered
entry_in_front n entry no_nodes = entries n (entry ∷ []) no_nodes
entry_in_front n entry (single m d next) = entries n (entry ∷ []) (single m d next)
entry_in_front n entry (entries m others next) = if nat_eq n m then entries m (entry ∷ others) next else entries n (entry ∷ []) (entries m others next)

-- a branch in front of what comes after it, by its kind: a container is an object, a list has entries with their keys, a leaf its value, a leaf-list has values
abbrev pub branch_in_front : List SchemaNode → Kind → SchemaNode → Seg → Option Value → Members → Gathered → Gathered
branch_in_front nodes Container node seg own kids next = single seg.node (object kids) next
branch_in_front nodes Presence node seg own kids next = single seg.node (object kids) next
branch_in_front nodes Listing node seg own kids next = entry_in_front seg.node (record { keys = seg.keys; json = item_data nodes Listing node seg kids }) next
branch_in_front nodes Leaf node seg own kids next = single seg.node (leaf_data node.ty own) next
branch_in_front nodes LeafList node seg own kids next = entry_in_front seg.node (record { keys = seg.keys; json = item_data nodes LeafList node seg kids }) next

-- the members, each under its member form: the entries of a node are one array, in their order
abbrev pub members_of : List SchemaNode → Gathered → Members
members_of nodes no_nodes = no_members
members_of nodes (single n d next) = member (node_at n nodes).member d (members_of nodes next)
members_of nodes (entries n each next) = member (node_at n nodes).member (array (items_of (map (λ entry. entry.json) each))) (members_of nodes next)

-- what is gathered of a forest: a list entry or container is there where it has a row or a row is below it
abbrev pub gathered : List SchemaNode → Forest → Gathered
gathered nodes bare = no_nodes
gathered nodes (branch seg own kids next) = branch_in_front nodes (node_at seg.node nodes).kind (node_at seg.node nodes) seg own (members_of nodes (gathered nodes kids)) (gathered nodes next)

abbrev pub members_in : List SchemaNode → Forest → Members
members_in nodes f = members_of nodes (gathered nodes f)

-- ---- at a place

-- the JSON of what stands at a path, by the kind of its last segment's node: an entry is an array of one
abbrev pub place_data : List SchemaNode → Kind → SchemaNode → Seg → Option Value → Members → Data
place_data nodes Container node seg own kids = object kids
place_data nodes Presence node seg own kids = object kids
place_data nodes Listing node seg own kids = array (item (item_data nodes Listing node seg kids) no_items)
place_data nodes Leaf node seg own kids = leaf_data node.ty own
place_data nodes LeafList node seg own kids = array (item (item_data nodes LeafList node seg kids) no_items)

-- the same with the path's own row, and what is below it
abbrev pub place_json : List SchemaNode → Seg → List Seg → List Row → Data
place_json nodes seg at rows = place_data nodes (node_at seg.node nodes).kind (node_at seg.node nodes) seg (value_at at rows) (members_in nodes (forest_at (length at) rows))

-- one member, under the qualified name of a segment's node
abbrev pub named_member : List SchemaNode → Seg → Data → Data
named_member nodes seg d = object (member (qualified_name (node_at seg.node nodes)) d no_members)

-- the JSON of rows: at the empty path the top members, at a path the one member of that path
abbrev pub rows_json : List SchemaNode → List Seg → List Row → Data
rows_json nodes [] rows = object (members_in nodes (forest_at 0 rows))
rows_json nodes (seg ∷ rest) rows = named_member nodes (last_segment seg rest) (place_json nodes (last_segment seg rest) (seg ∷ rest) rows)
