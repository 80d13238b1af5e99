-- An object of one member, read at a path.
use Rattle.std.proofs.Common.{◌≡◌, ℕ, List, [], ◌∷◌, ◌++◌, length, take, drop, Bool, true, false, ◌&&◌, ◌==◌, cond, option_map, refl, sym, ap, subst, ◌∙◌}
use Rattle.std.specs.Prelude.{Option, Some, None, Result, Ok, Err, nat_eq}
use Rattle.std.specs.Cmp.Lexicographic.{pointwise}
use Rattle.std.proofs.lemmas.Bool.{and_parts}
use Rattle.serde_json.specs.Data.{Data, null, boolean, number, string, array, object, Members, no_members, member}
use Rattle.yp_base.specs.declared.leaf_type.LeafType.{LeafType}
use Rattle.yp_base.specs.declared.leaf_type.LeafType.TheVariants.{Bool as TruthType, Int, Uint, Dec, Text, Names, Empty}
use Rattle.yp_base.specs.declared.atom.Atom.{Atom}
use Rattle.yp_base.specs.declared.path.Seg.{Seg}
use Rattle.yp_base.specs.declared.row.Row.{Row}
use Rattle.yp_base.specs.declared.row.Value.{Value}
use Rattle.yp_base.specs.declared.row.Value.TheVariants.{Atom as Plain, Present}
use Rattle.yp_value.specs.Json.{value_in}
use Rattle.yp_base.specs.Rows.{put_row}
use Rattle.yp_schema.specs.declared.schema.SchemaNode.{SchemaNode}
use Rattle.yp_schema.specs.declared.schema.Kind.TheVariants.{Leaf}
use Rattle.yp_schema.specs.Nodes.{node_at, qualified_name}
use Rattle.yp_schema.specs.Datastore.{keys_of_kind, is_segment, is_place}
use Rattle.yp_data_json.specs.declared.fault.DataFault.{DataFault}
use Rattle.yp_data_json.specs.declared.fault.DataFault.TheVariants.{UnknownElement, InvalidValue}
use Rattle.yp_schema.specs.Values.{typed_value}
use Rattle.yp_base.specs.Results.{◌>>=◌}
use Rattle.yp_data_json.specs.Reading.{valid, row_at, below, leaf_read, in_plain, in_array, in_object, entries_read, leaf_list_read, members_read, node_read}
use Rattle.yp_data_json.specs.AtPath.{leaf_row, by_kind, array_of_one, named_entry, named_value, named_read, rows_read}
use Rattle.yp_data_json.proofs.Again.{path_is}
use Rattle.yp_data_json.proofs.Places.{rows_last}
use Rattle.yp_schema.specs.SchemaLaws.{last_is_segment, empty_keys}

-- ---- names

both_parts : (a b c : Bool) → (a && (b && c)) ≡ ((a && b) && c)
both_parts true b c = refl
both_parts false b c = refl

-- a text is another behind which a third stands where it begins with it and goes on with the third
front_then : (home name tail : List ℕ) → pointwise nat_eq name (home ++ tail) ≡ (pointwise nat_eq (take (length home) name) home && pointwise nat_eq (drop (length home) name) tail)
front_then [] name tail = refl
front_then (h ∷ hs) [] tail = refl
front_then (h ∷ hs) (b ∷ bs) tail = ap (λ t. nat_eq b h && t) (front_then hs bs tail) ∙ both_parts (nat_eq b h) (pointwise nat_eq (take (length hs) bs) hs) (pointwise nat_eq (drop (length hs) bs) tail)

-- the same of texts that are given otherwise
pub begins_otherwise : (home name tail h n : List ℕ) → h ≡ home → n ≡ name → pointwise nat_eq (take (length h) n) h ≡ false → false ≡ pointwise nat_eq name (home ++ tail)
begins_otherwise home name tail h n h_is n_is other =
    let named = subst (λ (x : List ℕ). pointwise nat_eq (take (length h) x) h ≡ false) n_is other in
    let both = subst (λ (x : List ℕ). pointwise nat_eq (take (length x) name) x ≡ false) h_is named in
    sym (front_then home name tail ∙ ap (λ t. t && pointwise nat_eq (drop (length home) name) tail) both)

pub begins_with : (home name own h n o rest : List ℕ) (t : Bool) → h ≡ home → n ≡ name → o ≡ own → pointwise nat_eq (take (length h) n) h ≡ true → rest ≡ drop (length h) n
    → t ≡ pointwise nat_eq rest (58 ∷ o) → t ≡ pointwise nat_eq name (home ++ 58 ∷ own)
begins_with home name own h n o rest t h_is n_is o_is same is answer =
    let named = subst (λ (x : List ℕ). pointwise nat_eq (take (length h) x) h ≡ true) n_is same in
    let both = subst (λ (x : List ℕ). pointwise nat_eq (take (length x) name) x ≡ true) h_is named in
    let rest_is : rest ≡ drop (length home) name = is ∙ ap (λ (x : List ℕ). drop (length h) x) n_is ∙ ap (λ (x : List ℕ). drop (length x) name) h_is in
    answer
    ∙ ap (λ (x : List ℕ). pointwise nat_eq x (58 ∷ o)) rest_is
    ∙ ap (λ (x : List ℕ). pointwise nat_eq (drop (length home) name) (58 ∷ x)) o_is
    ∙ sym (front_then home name (58 ∷ own) ∙ ap (λ t. t && pointwise nat_eq (drop (length home) name) (58 ∷ own)) both)

-- ---- leaves

abbrev no_atom : Option Atom
no_atom = None

none_either : (b : Bool) → option_map (λ (atom : Atom). Plain atom) (cond b no_atom no_atom) ≡ None
none_either true = refl
none_either false = refl

no_value : (ty : LeafType) (ms : Members) → value_in ty (object ms) ≡ None
no_value TruthType ms = refl
no_value (Int bits) ms = none_either (bits == 64)
no_value (Uint bits) ms = none_either (bits == 64)
no_value (Dec places) ms = refl
no_value Text ms = refl
no_value (Names names) ms = refl
no_value Empty ms = refl

no_object : (ty : Option LeafType) (ms : Members) → valid (typed_value ty (object ms)) ≡ Err InvalidValue
no_object None ms = refl
no_object (Some ty) ms = rw (no_value ty ms) refl

-- what is read at a leaf is the row of the leaf
node_leaf : (nodes : List SchemaNode) (n : ℕ) (path : List Seg) (d : Data) (rows : List Row) → (node_at n nodes).kind ≡ Leaf → node_read nodes n path d rows ≡ leaf_read nodes n path d rows
node_leaf nodes n path null rows leaf = ap (λ k. in_plain k (leaf_read nodes n path null rows) (Err InvalidValue)) leaf
node_leaf nodes n path (boolean b) rows leaf = ap (λ k. in_plain k (leaf_read nodes n path (boolean b) rows) (Err InvalidValue)) leaf
node_leaf nodes n path (number x) rows leaf = ap (λ k. in_plain k (leaf_read nodes n path (number x) rows) (Err InvalidValue)) leaf
node_leaf nodes n path (string s) rows leaf = ap (λ k. in_plain k (leaf_read nodes n path (string s) rows) (Err InvalidValue)) leaf
node_leaf nodes n path (array ds) rows leaf = ap (λ k. in_array k (entries_read nodes n path ds rows) (leaf_read nodes n path (array ds) rows) (leaf_list_read nodes n path ds rows) (Err InvalidValue)) leaf
node_leaf nodes n path (object ms) rows leaf =
    ap (λ k. in_object k (members_read nodes (Some n) (below path n []) ms rows) (members_read nodes (Some n) (below path n []) ms (put_row (row_at (below path n []) Present) rows)) (Err InvalidValue)) leaf
    ∙ sym (ap (λ (r : Result Value DataFault). r >>= λ value. Ok (put_row (row_at (below path n []) value) rows)) (no_object (node_at n nodes).ty ms))

place_segment : (nodes : List SchemaNode) (above : List Seg) (seg : Seg) → is_place nodes (above ++ seg ∷ []) ≡ true → is_segment nodes seg ≡ true
place_segment nodes [] seg h = last_is_segment nodes None [] seg (and_parts _ _ h).0
place_segment nodes (s ∷ above) seg h = last_is_segment nodes None (s ∷ above) seg (and_parts _ _ h).0

leaf_keys : (nodes : List SchemaNode) (above : List Seg) (seg : Seg) → is_place nodes (above ++ seg ∷ []) ≡ true → (node_at seg.node nodes).kind ≡ Leaf → seg.keys ≡ []
leaf_keys nodes above seg place leaf =
    empty_keys seg.keys (subst (λ k. keys_of_kind k nodes (node_at seg.node nodes) seg.keys ≡ true) leaf (and_parts _ _ (place_segment nodes above seg place)).1)

-- ---- one member

same_after : (r : Result (List Row) DataFault) → (r >>= λ after. Ok after) ≡ r
same_after (Ok rows) = refl
same_after (Err e) = refl

module _ (nodes : List SchemaNode) (at above : List Seg) (seg : Seg) (name : List ℕ) (d : Data) (parts : at ≡ above ++ seg ∷ []) where
  abbrev chosen : Bool → Result (List Row) DataFault
  chosen b = (cond b (named_read nodes seg.node above seg.keys d []) (Err UnknownElement)) >>= λ after. Ok after

  by_name : rows_read nodes at (object (member name d no_members)) ≡ chosen (pointwise nat_eq name (qualified_name (node_at seg.node nodes)))
  by_name = ap (λ path. rows_read nodes path (object (member name d no_members))) parts ∙ rows_last nodes above seg (object (member name d no_members))

  -- another name is unknown
  pub unknown : pointwise nat_eq name (qualified_name (node_at seg.node nodes)) ≡ false → rows_read nodes at (object (member name d no_members)) ≡ Err UnknownElement
  unknown other = by_name ∙ ap chosen other

  pub named : pointwise nat_eq name (qualified_name (node_at seg.node nodes)) ≡ true → named_read nodes seg.node above seg.keys d [] ≡ rows_read nodes at (object (member name d no_members))
  named same = sym (by_name ∙ ap chosen same ∙ same_after (named_read nodes seg.node above seg.keys d []))

  -- at a leaf's name its row is read
  pub named_leaf : pointwise nat_eq name (qualified_name (node_at seg.node nodes)) ≡ true → is_place nodes at ≡ true → (node_at seg.node nodes).kind ≡ Leaf
      → leaf_row nodes seg.node at d ≡ rows_read nodes at (object (member name d no_members))
  named_leaf same place leaf =
      let keys = leaf_keys nodes above seg (subst (λ (path : List Seg). is_place nodes path ≡ true) parts place) leaf in
      ap (λ (path : List Seg). leaf_row nodes seg.node path d) (parts ∙ sym (path_is above seg keys))
      ∙ sym (node_leaf nodes seg.node above d [] leaf)
      ∙ sym (ap (λ k. by_kind k (array_of_one d (λ e. named_entry nodes seg.node above seg.keys e [])) (array_of_one d (λ e. named_value nodes seg.node above seg.keys e [])) (node_read nodes seg.node above d [])) leaf)
      ∙ named same
