-- What follows of a compiled schema, and of its paths.
use Rattle.std.proofs.Common.{◌≡◌, ℕ, ◌<◌, List, [], ◌∷◌, ◌++◌, length, Bool, true, false, true≢false, refl, sym, ap, ◌∙◌, Option, Some, None, IfSome}
use Rattle.std.specs.Prelude.{not, All}
use Rattle.std.proofs.lemmas.Bool.{and_parts, and_from, eqb-true, ltb-true}
use Rattle.std.proofs.lemmas.List.Elements.{All-nil, All-cons, All-weaker}
use Rattle.yp_base.specs.declared.atom.Atom.{Atom}
use Rattle.yp_base.specs.declared.leaf_type.LeafType.{LeafType}
use Rattle.yp_base.specs.declared.path.Seg.{Seg}
use Rattle.yp_base.specs.declared.row.Row.{Row}
use Rattle.yp_base.specs.declared.row.Value.{Value}
use Rattle.yp_base.specs.declared.row.Value.TheVariants.{Atom as Plain, Member, Empty, Present}
use Rattle.yp_base.specs.Types.{is_type}
use Rattle.yp_schema.specs.declared.schema.SchemaNode.{SchemaNode}
use Rattle.yp_schema.specs.declared.schema.Kind.{Kind}
use Rattle.yp_schema.specs.declared.schema.Kind.TheVariants.{Container, Presence, List as Listing, Leaf, LeafList}
use Rattle.yp_base.specs.Paths.{same_number}
use Rattle.yp_schema.specs.Nodes.{node_at, may_hold}
use Rattle.yp_schema.specs.WellFormed.{IsSchema, is_parent_of, kind_stands, has_none, has_type, has_atom_type, is_empty, is_key_leaf, are_key_leaves}
use Rattle.yp_base.specs.Paths.{last_node}
use Rattle.yp_schema.specs.Datastore.{is_segment, goes_down, is_path_of, is_key_node, is_key_at, ends_in_key, is_place, IsRowOf, value_of_kind, may_end, goes_to_row, atom_fits, typed_fits, is_present}

-- ---- the nodes of a schema

parent_of : (parent : Option ℕ) (n : ℕ) (nodes : List SchemaNode) → is_parent_of parent n nodes ≡ true → IfSome parent (λ p. p < n)
parent_of None n nodes h = tt
parent_of (Some p) n nodes h = ltb-true p n (and_parts _ _ h).0

-- a parent stands before its children
pub parent_before : (nodes : List SchemaNode) (n : ℕ) → IsSchema nodes → n < length nodes → IfSome (node_at n nodes).parent (λ p. p < n)
parent_before nodes n schema within = parent_of (node_at n nodes).parent n nodes (schema.each n within).parent

type_of_kind : (kind : Kind) (n : ℕ) (nodes : List SchemaNode) (node : SchemaNode) (ty : LeafType) → kind_stands kind n nodes node ≡ true → node.ty ≡ Some ty → is_type ty ≡ true
type_of_kind Container n nodes node ty h is = absurd (true≢false (sym (and_parts _ _ h).1 ∙ ap has_none is))
type_of_kind Presence n nodes node ty h is = absurd (true≢false (sym (and_parts _ _ h).1 ∙ ap has_none is))
type_of_kind Listing n nodes node ty h is = absurd (true≢false (sym (and_parts _ _ h).1 ∙ ap has_none is))
type_of_kind Leaf n nodes node ty h is = sym (ap has_type is) ∙ (and_parts _ _ h).1
type_of_kind LeafList n nodes node ty h is = (and_parts _ _ (sym (ap has_atom_type is) ∙ (and_parts _ _ h).1)).0

-- the type of a node is a type
pub type_is : (nodes : List SchemaNode) (n : ℕ) (ty : LeafType) → IsSchema nodes → n < length nodes → (node_at n nodes).ty ≡ Some ty → is_type ty ≡ true
type_is nodes n ty schema within is = type_of_kind (node_at n nodes).kind n nodes (node_at n nodes) ty (schema.each n within).kind is

no_leaves : (n : ℕ) (nodes : List SchemaNode) (ks : List ℕ) → is_empty ks ≡ true → All (λ k. is_key_leaf n nodes k ≡ true) ks
no_leaves n nodes [] h = All-nil _
no_leaves n nodes (k ∷ ks) h = absurd (true≢false (sym h))

each_leaf : (n : ℕ) (nodes : List SchemaNode) (ks : List ℕ) → are_key_leaves n nodes ks ≡ true → All (λ k. is_key_leaf n nodes k ≡ true) ks
each_leaf n nodes [] h = All-nil _
each_leaf n nodes (k ∷ ks) h = All-cons (λ k. is_key_leaf n nodes k ≡ true) k ks (and_parts _ _ (and_parts _ _ h).0).0 (each_leaf n nodes ks (and_parts _ _ h).1)

leaves_of_kind : (kind : Kind) (n : ℕ) (nodes : List SchemaNode) (node : SchemaNode) → kind_stands kind n nodes node ≡ true → All (λ k. is_key_leaf n nodes k ≡ true) node.keys
leaves_of_kind Container n nodes node h = no_leaves n nodes node.keys (and_parts _ _ h).0
leaves_of_kind Presence n nodes node h = no_leaves n nodes node.keys (and_parts _ _ h).0
leaves_of_kind Listing n nodes node h = each_leaf n nodes node.keys (and_parts _ _ (and_parts _ _ h).0).1
leaves_of_kind Leaf n nodes node h = no_leaves n nodes node.keys (and_parts _ _ h).0
leaves_of_kind LeafList n nodes node h = no_leaves n nodes node.keys (and_parts _ _ h).0

-- each key of a node is a leaf below it
pub keys_are_leaves : (nodes : List SchemaNode) (n : ℕ) → IsSchema nodes → n < length nodes → All (λ k. is_key_leaf n nodes k ≡ true) (node_at n nodes).keys
keys_are_leaves nodes n schema within = leaves_of_kind (node_at n nodes).kind n nodes (node_at n nodes) (schema.each n within).kind

leaf_within : (n : ℕ) (nodes : List SchemaNode) (k : ℕ) → is_key_leaf n nodes k ≡ true → k < length nodes
leaf_within n nodes k h = ltb-true k (length nodes) (and_parts _ _ (and_parts _ _ (and_parts _ _ (and_parts _ _ h).0).0).0).0

-- and one of its nodes
pub keys_within : (nodes : List SchemaNode) (n : ℕ) → IsSchema nodes → n < length nodes → All (λ k. k < length nodes) (node_at n nodes).keys
keys_within nodes n schema within = All-weaker (λ k. is_key_leaf n nodes k ≡ true) (λ k. k < length nodes) (leaf_within n nodes) (node_at n nodes).keys (keys_are_leaves nodes n schema within)

-- ---- its paths

-- a segment is of a node
pub segment_within : (nodes : List SchemaNode) (seg : Seg) → is_segment nodes seg ≡ true → seg.node < length nodes
segment_within nodes seg h = ltb-true seg.node (length nodes) (and_parts _ _ h).0

each_segment : (nodes : List SchemaNode) (parent : Option ℕ) (path : List Seg) → goes_down nodes parent path ≡ true → All (λ seg. is_segment nodes seg ≡ true) path
each_segment nodes parent [] h = All-nil _
each_segment nodes parent (seg ∷ path) h =
    All-cons (λ seg. is_segment nodes seg ≡ true) seg path (and_parts _ _ (and_parts _ _ h).0).1 (each_segment nodes (Some seg.node) path (and_parts _ _ h).1)

-- a path goes down from the top
pub path_down : (nodes : List SchemaNode) (path : List Seg) → is_path_of nodes path ≡ true → goes_down nodes None path ≡ true
path_down nodes [] h = refl
path_down nodes (seg ∷ path) h = h

-- each of its segments has the keys that its node asks for
pub path_segments : (nodes : List SchemaNode) (path : List Seg) → is_path_of nodes path ≡ true → All (λ seg. is_segment nodes seg ≡ true) path
path_segments nodes path h = each_segment nodes None path (path_down nodes path h)

-- and is of a node
pub path_within : (nodes : List SchemaNode) (path : List Seg) → is_path_of nodes path ≡ true → All (λ seg. seg.node < length nodes) path
path_within nodes path h = All-weaker (λ seg. is_segment nodes seg ≡ true) (λ seg. seg.node < length nodes) (segment_within nodes) path (path_segments nodes path h)

down_end : (nodes : List SchemaNode) (parent : Option ℕ) (path : List Seg) → goes_down nodes parent path ≡ true → IfSome (last_node path) (λ n. n < length nodes)
down_end nodes parent [] h = tt
down_end nodes parent (seg ∷ []) h = segment_within nodes seg (and_parts _ _ (and_parts _ _ h).0).1
down_end nodes parent (seg ∷ next ∷ path) h = down_end nodes (Some seg.node) (next ∷ path) (and_parts _ _ h).1

-- as is its end
pub path_end : (nodes : List SchemaNode) (path : List Seg) → is_path_of nodes path ≡ true → IfSome (last_node path) (λ n. n < length nodes)
path_end nodes path h = down_end nodes None path (path_down nodes path h)

-- a path ends in the node of its last segment
pub last_node_append : (above : List Seg) (seg : Seg) → last_node (above ++ seg ∷ []) ≡ Some seg.node
last_node_append [] seg = refl
last_node_append (first ∷ []) seg = refl
last_node_append (first ∷ next ∷ above) seg = last_node_append (next ∷ above) seg

-- the node of the last segment, or another where there is none
abbrev pub node_after : Option ℕ → List Seg → Option ℕ
node_after parent [] = parent
node_after parent (seg ∷ segs) = node_after (Some seg.node) segs

pub node_after_append : (parent : Option ℕ) (above : List Seg) (seg : Seg) → node_after parent (above ++ seg ∷ []) ≡ Some seg.node
node_after_append parent [] seg = refl
node_after_append parent (first ∷ above) seg = node_after_append (Some first.node) above seg

-- a way down goes on from each of its nodes
pub goes_on : (nodes : List SchemaNode) (parent : Option ℕ) (above rest : List Seg) → goes_down nodes parent (above ++ rest) ≡ true → goes_down nodes (node_after parent above) rest ≡ true
goes_on nodes parent [] rest h = h
goes_on nodes parent (seg ∷ above) rest h = goes_on nodes (Some seg.node) above rest (and_parts _ _ h).1

-- its first node is a child of the parent
pub first_parent : (nodes : List SchemaNode) (parent : Option ℕ) (seg : Seg) (rest : List Seg) → goes_down nodes parent (seg ∷ rest) ≡ true → same_number (node_at seg.node nodes).parent parent ≡ true
first_parent nodes parent seg rest h = (and_parts _ _ (and_parts _ _ h).0).0

-- and its first segment is one
pub first_segment : (nodes : List SchemaNode) (parent : Option ℕ) (seg : Seg) (rest : List Seg) → goes_down nodes parent (seg ∷ rest) ≡ true → is_segment nodes seg ≡ true
first_segment nodes parent seg rest h = (and_parts _ _ (and_parts _ _ h).0).1

-- as is its last
pub last_is_segment : (nodes : List SchemaNode) (parent : Option ℕ) (above : List Seg) (seg : Seg) → goes_down nodes parent (above ++ seg ∷ []) ≡ true → is_segment nodes seg ≡ true
last_is_segment nodes parent [] seg h = first_segment nodes parent seg [] h
last_is_segment nodes parent (first ∷ above) seg h = last_is_segment nodes (Some first.node) above seg (and_parts _ _ h).1

holds_at : (nodes : List SchemaNode) (n m : ℕ) (parent : Option ℕ) → same_number parent (Some n) ≡ true → is_parent_of parent m nodes ≡ true → may_hold (node_at n nodes).kind ≡ true
holds_at nodes n m None same h = absurd (true≢false (sym same))
holds_at nodes n m (Some p) same h = ap (λ k. may_hold (node_at k nodes).kind) (sym (eqb-true p n same)) ∙ (and_parts _ (may_hold (node_at p nodes).kind) h).1

-- a node that has a child is of a kind that holds some
pub child_holds : (nodes : List SchemaNode) → IsSchema nodes → (n m : ℕ) → m < length nodes → same_number (node_at m nodes).parent (Some n) ≡ true → may_hold (node_at n nodes).kind ≡ true
child_holds nodes schema n m within same = holds_at nodes n m (node_at m nodes).parent same (schema.each m within).parent

-- so nothing goes on below a leaf
pub leaf_ends : (nodes : List SchemaNode) → IsSchema nodes → (n : ℕ) (rest : List Seg) → may_hold (node_at n nodes).kind ≡ false → goes_down nodes (Some n) rest ≡ true → rest ≡ []
leaf_ends nodes schema n [] leaf down = refl
leaf_ends nodes schema n (seg ∷ rest) leaf down =
    absurd (true≢false (sym (child_holds nodes schema n seg.node (segment_within nodes seg (first_segment nodes (Some n) seg rest down)) (first_parent nodes (Some n) seg rest down)) ∙ leaf))

-- data may stand at a path that ends in no key leaf
pub open_place : (nodes : List SchemaNode) (path : List Seg) → is_path_of nodes path ≡ true → ends_in_key nodes path ≡ false → is_place nodes path ≡ true
open_place nodes [] is open_end = refl
open_place nodes (seg ∷ path) is open_end = and_from _ _ is (ap not open_end)

not_true : (t : Bool) → not t ≡ true → t ≡ false
not_true true h = absurd (true≢false (sym h))
not_true false h = refl

-- ---- rows

last_part : (nodes : List SchemaNode) (seg : Seg) (value : Value) → may_end nodes seg value ≡ true → (not (is_key_node nodes seg.node) ≡ true) × (value_of_kind (node_at seg.node nodes).kind (node_at seg.node nodes).ty value ≡ true)
last_part nodes seg value h = and_parts _ _ (and_parts (is_segment nodes seg) _ h).1

-- where a row may end there is a segment
pub end_segment : (nodes : List SchemaNode) (seg : Seg) (value : Value) → may_end nodes seg value ≡ true → is_segment nodes seg ≡ true
end_segment nodes seg value h = (and_parts (is_segment nodes seg) _ h).0

-- of a node of this kind of value
pub end_kind : (nodes : List SchemaNode) (seg : Seg) (value : Value) → may_end nodes seg value ≡ true → value_of_kind (node_at seg.node nodes).kind (node_at seg.node nodes).ty value ≡ true
end_kind nodes seg value h = (last_part nodes seg value h).1

-- that is no key
pub end_open : (nodes : List SchemaNode) (seg : Seg) (value : Value) → may_end nodes seg value ≡ true → is_key_node nodes seg.node ≡ false
end_open nodes seg value h = not_true (is_key_node nodes seg.node) (last_part nodes seg value h).0

-- a row may end in the last segment of its path
pub row_ends : (nodes : List SchemaNode) (parent : Option ℕ) (above : List Seg) (seg : Seg) (value : Value) → goes_to_row nodes parent (above ++ seg ∷ []) value ≡ true → may_end nodes seg value ≡ true
row_ends nodes parent [] seg value h = (and_parts _ _ h).1
row_ends nodes parent (first ∷ []) seg value h = row_ends nodes (Some first.node) [] seg value (and_parts _ _ h).1
row_ends nodes parent (first ∷ next ∷ above) seg value h = row_ends nodes (Some first.node) (next ∷ above) seg value (and_parts _ _ h).1

-- the way there goes down
pub row_goes_down : (nodes : List SchemaNode) (parent : Option ℕ) (path : List Seg) (value : Value) → goes_to_row nodes parent path value ≡ true → goes_down nodes parent path ≡ true
row_goes_down nodes parent [] value h = refl
row_goes_down nodes parent (seg ∷ []) value h =
    and_from _ _ (and_from _ _ (and_parts (same_number (node_at seg.node nodes).parent parent) _ h).0 (end_segment nodes seg value (row_ends nodes parent [] seg value h))) refl
row_goes_down nodes parent (seg ∷ next ∷ path) value h = and_from _ _ (and_parts _ _ h).0 (row_goes_down nodes (Some seg.node) (next ∷ path) value (and_parts _ _ h).1)

-- a way down is one to a row that may end in its last segment
pub row_led : (nodes : List SchemaNode) (parent : Option ℕ) (above : List Seg) (seg : Seg) (value : Value) → goes_down nodes parent (above ++ seg ∷ []) ≡ true → may_end nodes seg value ≡ true
    → goes_to_row nodes parent (above ++ seg ∷ []) value ≡ true
row_led nodes parent [] seg value down ends = and_from _ _ (and_parts _ _ (and_parts _ _ down).0).0 ends
row_led nodes parent (first ∷ []) seg value down ends = and_from _ _ (and_parts _ _ down).0 (row_led nodes (Some first.node) [] seg value (and_parts _ _ down).1 ends)
row_led nodes parent (first ∷ next ∷ above) seg value down ends = and_from _ _ (and_parts _ _ down).0 (row_led nodes (Some first.node) (next ∷ above) seg value (and_parts _ _ down).1 ends)

-- the node that a row ends in
pub row_node : (nodes : List SchemaNode) (parent : Option ℕ) (path : List Seg) (value : Value) → goes_to_row nodes parent path value ≡ true
    → (n : ℕ) × ((last_node path ≡ Some n) × (value_of_kind (node_at n nodes).kind (node_at n nodes).ty value ≡ true) × (is_key_node nodes n ≡ false))
row_node nodes parent [] value h = absurd (true≢false (sym h))
row_node nodes parent (seg ∷ []) value h = let ends = row_ends nodes parent [] seg value h in (seg.node, (refl, end_kind nodes seg value ends, end_open nodes seg value ends))
row_node nodes parent (seg ∷ next ∷ path) value h = row_node nodes (Some seg.node) (next ∷ path) value (and_parts _ _ h).1

row_way : (nodes : List SchemaNode) (path : List Seg) (value : Value) → goes_to_row nodes None path value ≡ true → is_path_of nodes path ≡ true
row_way nodes [] value h = h
row_way nodes (seg ∷ path) value h = row_goes_down nodes None (seg ∷ path) value h

-- the path of a row goes down
pub row_down : (nodes : List SchemaNode) (row : Row) → IsRowOf nodes row → goes_down nodes None row.path ≡ true
row_down nodes row is = row_goes_down nodes None row.path row.value is.goes

-- the path of a row is one of the schema
pub row_path : (nodes : List SchemaNode) (row : Row) → IsRowOf nodes row → is_path_of nodes row.path ≡ true
row_path nodes row is = row_way nodes row.path row.value is.goes

-- and data may stand there
pub row_place : (nodes : List SchemaNode) (row : Row) → IsRowOf nodes row → is_place nodes row.path ≡ true
row_place nodes row is =
    let node = row_node nodes None row.path row.value is.goes in
    open_place nodes row.path (row_path nodes row is) (ap (is_key_at nodes) node.1.0 ∙ node.1.2)

-- ---- values

-- a key that fits a type is a value of it
pub plain_fits : (ty : Option LeafType) (key : Atom) → atom_fits ty key ≡ true → typed_fits ty (Plain key) ≡ true
plain_fits None key h = h
plain_fits (Some ty) key h = h

pub present_is : (value : Value) → is_present value ≡ true → value ≡ Present
present_is (Plain atom) h = absurd (true≢false (sym h))
present_is Member h = absurd (true≢false (sym h))
present_is Empty h = absurd (true≢false (sym h))
present_is Present h = refl

-- where there are no keys
pub empty_keys : (keys : List Atom) → is_empty keys ≡ true → keys ≡ []
empty_keys [] h = refl
empty_keys (key ∷ keys) h = absurd (true≢false (sym h))
