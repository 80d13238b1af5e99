-- No floating-point number is written.
use Rattle.std.proofs.Common.{◌≡◌, ℕ, Bool, true, false, ◌||◌, List, [], ◌∷◌, length, map, cond, refl, Option, Some, None}
use Rattle.std.specs.Prelude.{ℤ, pos, negsuc, nat_eq}
use Rattle.std.proofs.lemmas.Bool.{or_from, or_parts}
use Rattle.std.specs.Ordering.{nat_cmp, match_ordering}
use Rattle.std.specs.Cmp.Lexicographic.{slice_cmp}
use Rattle.std.specs.declared.cmp.Ordering.{Ordering}
use Rattle.std.specs.declared.cmp.Ordering.TheVariants.{Less, Equal, Greater}
use Rattle.serde_json.specs.Data.{Num, unsigned, Data, number, string, array, no_items, item, Members, no_members, member, put}
use Rattle.serde_json.specs.Written.{has_float, items_have_float, members_have_float}
use Rattle.serde_json.specs.Find.{of_integer}
use Rattle.serde_json.specs.View.{items_of}
use Rattle.yp_base.specs.declared.atom.Atom.{Atom}
use Rattle.yp_base.specs.declared.atom.Atom.TheVariants.{Bool as Truth, Int, Uint, Dec, Text}
use Rattle.yp_base.specs.declared.leaf_type.LeafType.{LeafType}
use Rattle.yp_base.specs.declared.path.Seg.{Seg}
use Rattle.yp_base.specs.declared.row.Row.{Row}
use Rattle.yp_base.specs.declared.row.Value.{Value}
use Rattle.yp_base.specs.declared.row.Value.TheVariants.{Atom as Plain, Member, Empty, Present}
use Rattle.yp_base.specs.Rows.{value_at}
use Rattle.yp_value.specs.Texts.{atom_text}
use Rattle.yp_value.specs.Json.{has_string_numbers, atom_data, value_data}
use Rattle.yp_schema.specs.declared.schema.SchemaNode.{SchemaNode}
use Rattle.yp_schema.specs.declared.schema.Kind.{Kind}
use Rattle.yp_schema.specs.declared.schema.Kind.TheVariants.{Container, Presence, List as Listing, Leaf, LeafList}
use Rattle.yp_schema.specs.Nodes.{node_at}
use Rattle.yp_data_json.specs.Forest.{Forest, bare, branch, forest_at}
use Rattle.yp_base.specs.Paths.{last_segment}
use Rattle.yp_data_json.specs.Writing.{leaf_data, key_data, one_key_data, with_keys, Entry, Gathered, no_nodes, single, entries, entry_in_front, item_data, branch_in_front, members_of, gathered, members_in, place_data, place_json, rows_json}

integer : (z : ℤ) → has_float (number (of_integer z)) ≡ false
integer (pos n) = refl
integer (negsuc n) = refl

chosen : (b : Bool) (text : List ℕ) (n : Num) → has_float (number n) ≡ false → has_float (cond b (string text) (number n)) ≡ false
chosen true text n is = refl
chosen false text n is = is

atom : (ty : LeafType) (a : Atom) → has_float (atom_data ty a) ≡ false
atom ty (Truth b) = refl
atom ty (Int n) = chosen (has_string_numbers ty) (atom_text (Int n)) (of_integer n) (integer n)
atom ty (Uint n) = chosen (has_string_numbers ty) (atom_text (Uint n)) (unsigned n) refl
atom ty (Dec places units) = refl
atom ty (Text text) = refl

value : (ty : LeafType) (v : Value) → has_float (value_data ty v) ≡ false
value ty (Plain a) = atom ty a
value ty Member = refl
value ty Empty = refl
value ty Present = refl

leaf : (ty : Option LeafType) (own : Option Value) → has_float (leaf_data ty own) ≡ false
leaf None own = refl
leaf (Some ty) None = refl
leaf (Some ty) (Some v) = value ty v

one_key : (ty : Option LeafType) (keys : List Atom) → has_float (one_key_data ty keys) ≡ false
one_key ty [] = refl
one_key ty (key ∷ keys) = leaf ty (Some (Plain key))

put_at : (o : Ordering) (k : List ℕ) (d : Data) (l : List ℕ) (e : Data) (ms more : Members) → has_float d ≡ false → has_float e ≡ false → members_have_float ms ≡ false → members_have_float more ≡ false
    → members_have_float (match_ordering o (member k d (member l e ms)) (member l d ms) (member l e more)) ≡ false
put_at Less k d l e ms more one two rest later = or_from (has_float d) (has_float e || members_have_float ms) one (or_from (has_float e) (members_have_float ms) two rest)
put_at Equal k d l e ms more one two rest later = or_from (has_float d) (members_have_float ms) one rest
put_at Greater k d l e ms more one two rest later = or_from (has_float e) (members_have_float more) two later

put_none : (k : List ℕ) (d : Data) (ms : Members) → has_float d ≡ false → members_have_float ms ≡ false → members_have_float (put k d ms) ≡ false
put_none k d no_members one rest = or_from (has_float d) false one refl
put_none k d (member l e ms) one rest =
    let parts = or_parts (has_float e) (members_have_float ms) rest in
    put_at (slice_cmp nat_cmp k l) k d l e ms (put k d ms) one parts.0 parts.1 (put_none k d ms one parts.1)

keys_none : (nodes : List SchemaNode) (ks : List ℕ) (keys : List Atom) (ms : Members) → members_have_float ms ≡ false → members_have_float (with_keys nodes ks keys ms) ≡ false
keys_none nodes [] keys ms rest = rest
keys_none nodes (k ∷ ks) [] ms rest = rest
keys_none nodes (k ∷ ks) (key ∷ keys) ms rest =
    keys_none nodes ks keys (put (node_at k nodes).member (key_data (node_at k nodes).ty key) ms) (put_none (node_at k nodes).member (key_data (node_at k nodes).ty key) ms (leaf (node_at k nodes).ty (Some (Plain key))) rest)

new_item : (name : List ℕ) (d : Data) (ms : Members) → has_float d ≡ false → members_have_float ms ≡ false → members_have_float (member name (array (item d no_items)) ms) ≡ false
new_item name d ms one rest = or_from (has_float d || false) (members_have_float ms) (or_from (has_float d) false one refl) rest

entry_at : (b : Bool) (nodes : List SchemaNode) (n m : ℕ) (e : Entry) (each : List Entry) (g : Gathered) → has_float e.json ≡ false → members_have_float (members_of nodes (entries m each g)) ≡ false
    → members_have_float (members_of nodes (cond b (entries m (e ∷ each) g) (entries n (e ∷ []) (entries m each g)))) ≡ false
entry_at true nodes n m e each g one rest =
    let ds = items_of (map (λ x. x.json) each) in
    let parts = or_parts (items_have_float ds) (members_have_float (members_of nodes g)) rest in
    or_from (has_float e.json || items_have_float ds) (members_have_float (members_of nodes g)) (or_from (has_float e.json) (items_have_float ds) one parts.0) parts.1
entry_at false nodes n m e each g one rest = new_item (node_at n nodes).member e.json (members_of nodes (entries m each g)) one rest

entry_none : (nodes : List SchemaNode) (n : ℕ) (e : Entry) (g : Gathered) → has_float e.json ≡ false → members_have_float (members_of nodes g) ≡ false → members_have_float (members_of nodes (entry_in_front n e g)) ≡ false
entry_none nodes n e no_nodes one rest = new_item (node_at n nodes).member e.json no_members one rest
entry_none nodes n e (single m d g) one rest = new_item (node_at n nodes).member e.json (members_of nodes (single m d g)) one rest
entry_none nodes n e (entries m each g) one rest = entry_at (nat_eq n m) nodes n m e each g one rest

item_data_none : (nodes : List SchemaNode) (k : Kind) (node : SchemaNode) (seg : Seg) (kids : Members) → members_have_float kids ≡ false → has_float (item_data nodes k node seg kids) ≡ false
item_data_none nodes Container node seg kids below = refl
item_data_none nodes Presence node seg kids below = refl
item_data_none nodes Listing node seg kids below = keys_none nodes node.keys seg.keys kids below
item_data_none nodes Leaf node seg kids below = refl
item_data_none nodes LeafList node seg kids below = one_key node.ty seg.keys

branch_none : (nodes : List SchemaNode) (k : Kind) (node : SchemaNode) (seg : Seg) (own : Option Value) (kids : Members) (next : Gathered) → members_have_float kids ≡ false → members_have_float (members_of nodes next) ≡ false
    → members_have_float (members_of nodes (branch_in_front nodes k node seg own kids next)) ≡ false
branch_none nodes Container node seg own kids next below later = or_from (members_have_float kids) (members_have_float (members_of nodes next)) below later
branch_none nodes Presence node seg own kids next below later = or_from (members_have_float kids) (members_have_float (members_of nodes next)) below later
branch_none nodes Listing node seg own kids next below later = entry_none nodes seg.node (record { keys = seg.keys; json = item_data nodes Listing node seg kids }) next (item_data_none nodes Listing node seg kids below) later
branch_none nodes Leaf node seg own kids next below later = or_from (has_float (leaf_data node.ty own)) (members_have_float (members_of nodes next)) (leaf node.ty own) later
branch_none nodes LeafList node seg own kids next below later = entry_none nodes seg.node (record { keys = seg.keys; json = item_data nodes LeafList node seg kids }) next (item_data_none nodes LeafList node seg kids below) later

place_none : (nodes : List SchemaNode) (k : Kind) (node : SchemaNode) (seg : Seg) (own : Option Value) (kids : Members) → members_have_float kids ≡ false → has_float (place_data nodes k node seg own kids) ≡ false
place_none nodes Container node seg own kids below = below
place_none nodes Presence node seg own kids below = below
place_none nodes Listing node seg own kids below = or_from (has_float (item_data nodes Listing node seg kids)) false (item_data_none nodes Listing node seg kids below) refl
place_none nodes Leaf node seg own kids below = leaf node.ty own
place_none nodes LeafList node seg own kids below = or_from (has_float (item_data nodes LeafList node seg kids)) false (item_data_none nodes LeafList node seg kids below) refl

members_none : (nodes : List SchemaNode) (f : Forest) → members_have_float (members_in nodes f) ≡ false
members_none nodes bare = refl
members_none nodes (branch seg own kids next) =
    branch_none nodes (node_at seg.node nodes).kind (node_at seg.node nodes) seg own (members_in nodes kids) (gathered nodes next) (members_none nodes kids) (members_none nodes next)

-- the JSON of rows has none
pub rows_none : (nodes : List SchemaNode) (at : List Seg) (rows : List Row) → has_float (rows_json nodes at rows) ≡ false
rows_none nodes [] rows = members_none nodes (forest_at 0 rows)
rows_none nodes (seg ∷ rest) rows =
    let last = last_segment seg rest in
    or_from (has_float (place_json nodes last (seg ∷ rest) rows)) false
    (place_none nodes (node_at last.node nodes).kind (node_at last.node nodes) last (value_at (seg ∷ rest) rows) (members_in nodes (forest_at (length (seg ∷ rest)) rows)) (members_none nodes (forest_at (length (seg ∷ rest)) rows)))
    refl
