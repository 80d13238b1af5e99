-- Rows that are read of JSON with UTF-8 texts have texts that are UTF-8.
use Rattle.std.proofs.Common.{◌≡◌, ℕ, ◌≤◌, ⊎_elim, List, [], ◌∷◌, ◌++◌, length, Bool, true, false, cond, Less, Equal, Greater, Option, Some, None, is_some, option_and_then, Result, Ok, Err, IfSome, IfOk, nat_eq, nat_cmp, refl, sym, ap, ◌∙◌}
use Rattle.std.specs.Cmp.Lexicographic.{slice_cmp, pointwise}
use Rattle.std.specs.Ordering.{match_ordering}
use Rattle.std.specs.Str.{is_utf8}
use Rattle.std.proofs.lemmas.Bool.{and_parts, and_from, cases_lt}
use Rattle.std.proofs.lemmas.List.{get_or_past}
use Rattle.serde_json.specs.Data.{Data, null, boolean, number, string, array, object, Items, no_items, item, Members, no_members, member}
use Rattle.serde_json.specs.Find.{get_member}
use Rattle.yp_base.specs.declared.atom.Atom.{Atom}
use Rattle.yp_base.specs.declared.leaf_type.LeafType.{LeafType}
use Rattle.yp_base.specs.declared.path.Seg.{Seg}
use Rattle.yp_base.specs.declared.row.Row.{Row}
use Rattle.yp_base.specs.declared.row.Value.{Value}
use Rattle.yp_base.specs.declared.row.Value.TheVariants.{Atom as Plain, Member, Empty, Present}
use Rattle.yp_base.specs.Results.{◌>>=◌}
use Rattle.yp_base.specs.RowLaws.{all_put}
use Rattle.yp_base.specs.Rows.{put_row, value_at}
use Rattle.yp_value.specs.Texts.{atom_text}
use Rattle.yp_base.specs.Types.{is_type}
use Rattle.yp_schema.specs.declared.schema.SchemaNode.{SchemaNode}
use Rattle.yp_schema.specs.declared.schema.Kind.{Kind}
use Rattle.yp_schema.specs.declared.schema.Kind.TheVariants.{Container, Presence, List as Listing, Leaf, LeafList}
use Rattle.yp_schema.specs.Nodes.{no_node, node_at, child_of, is_key, qualified_name}
use Rattle.yp_schema.specs.SchemaLaws.{type_is}
use Rattle.yp_schema.specs.Values.{typed_value, only_atom, typed_atom}
use Rattle.yp_schema.specs.WellFormed.{IsSchema}
use Rattle.yp_path.specs.Targets.{are_texts, has_texts}
use Rattle.yp_data_json.specs.declared.fault.DataFault.{DataFault}
use Rattle.yp_data_json.specs.declared.fault.DataFault.TheVariants.{UnknownElement, InvalidValue, RepeatedKey}
use Rattle.yp_data_json.specs.AtPath.{are_keys, named_entry, named_value, array_of_one, by_kind, named_read, outer_read, has_no_members, object_read, last_read, rows_read}
use Rattle.yp_data_json.specs.Reading.{valid, key_in, KeyFault, at_key, with_key, keys_found, fault_alone, keys_in, below, row_at, leaf_read, entered, value_read, leaf_list_read, in_object, in_array, in_plain, plain_read, for_child, members_read, node_read, entries_read, entry_read, datastore_read}
use Rattle.yp_command.specs.SaidLaws.{then_is, or_is}
use Rattle.yp_receiver.specs.Readable.{has_value_text, HaveTexts}
use Rattle.yp_utf8.specs.Utf8.{HasUtf8, ItemsHaveUtf8, MembersHaveUtf8}
use Rattle.yp_texts.proofs.Atoms as atoms

-- ---- paths and rows

-- a path goes on with texts
pub texts_on : (path : List Seg) (seg : Seg) → has_texts path ≡ true → are_texts seg.keys ≡ true → has_texts (path ++ seg ∷ []) ≡ true
texts_on [] seg h keys = and_from (are_texts seg.keys) true keys refl
texts_on (first ∷ path) seg h keys =
    let parts = and_parts (are_texts first.keys) (has_texts path) h in
    and_from (are_texts first.keys) (has_texts (path ++ seg ∷ [])) parts.0 (texts_on path seg parts.1 keys)

-- a row whose path and value have texts
abbrev pub RowHasTexts : Row → Type 0
RowHasTexts row = (has_texts row.path ≡ true) × (has_value_text row.value ≡ true)

put_texts : (path : List Seg) (value : Value) (rows : List Row) → has_texts path ≡ true → has_value_text value ≡ true → HaveTexts rows → HaveTexts (put_row (row_at path value) rows)
put_texts path value rows keys text h = all_put RowHasTexts (row_at path value) rows (keys, text) h

unless_there : (b : Bool) (rows : List Row) → HaveTexts rows → IfOk {E = DataFault} (cond b (Err RepeatedKey) (Ok rows)) HaveTexts
unless_there true rows h = tt
unless_there false rows h = h

entered_texts : (path : List Seg) (value : Value) (rows : List Row) → has_texts path ≡ true → has_value_text value ≡ true → HaveTexts rows → IfOk (entered path value rows) HaveTexts
entered_texts path value rows keys text h = unless_there (is_some (value_at path rows)) (put_row (row_at path value) rows) (put_texts path value rows keys text h)

-- ---- atoms and keys

abbrev AtomHasText : Atom → Type 0
AtomHasText atom = is_utf8 (atom_text atom) ≡ true

abbrev KeysHaveTexts : List Atom → Type 0
KeysHaveTexts keys = are_texts keys ≡ true

atom_alone : (o : Option Value) → IfSome o (λ value. has_value_text value ≡ true) → IfSome (option_and_then only_atom o) AtomHasText
atom_alone None h = tt
atom_alone (Some (Plain atom)) h = h
atom_alone (Some Member) h = tt
atom_alone (Some Empty) h = tt
atom_alone (Some Present) h = tt

-- the member of a name
pub member_utf8 : (name : List ℕ) (ms : Members) → MembersHaveUtf8 ms → IfSome (get_member name ms) HasUtf8
member_utf8 name no_members u = tt
member_utf8 name (member other d ms) u =
    let rest = member_utf8 name ms u.1 in
    elim (slice_cmp nat_cmp name other) as (λ o. IfSome (match_ordering o (get_member name ms) (Some d) (get_member name ms)) HasUtf8) [
      | Less ↦ rest
      | Equal ↦ u.0
      | Greater ↦ rest
    ]

one_text : (atom : Atom) → AtomHasText atom → are_texts (atom ∷ []) ≡ true
one_text atom h = and_from (is_utf8 (atom_text atom)) true h refl

with_key_texts : (nodes : List SchemaNode) (one : Result Atom KeyFault) (rest : Result (List Atom) KeyFault) → IfOk one AtomHasText → IfOk rest KeysHaveTexts → IfOk (with_key nodes one rest) KeysHaveTexts
with_key_texts nodes (Ok atom) (Ok atoms) h k = and_from (is_utf8 (atom_text atom)) (are_texts atoms) h k
with_key_texts nodes (Ok atom) (Err fault) h k = tt
with_key_texts nodes (Err fault) (Ok atoms) h k = tt
with_key_texts nodes (Err fault) (Err other) h k = tt

at_key_texts : (k : ℕ) (r : Result Atom DataFault) → IfOk r AtomHasText → IfOk (at_key k r) AtomHasText
at_key_texts k (Ok atom) h = h
at_key_texts k (Err e) h = tt

alone_texts : (r : Result (List Atom) KeyFault) → IfOk r KeysHaveTexts → IfOk (fault_alone r) KeysHaveTexts
alone_texts (Ok keys) h = h
alone_texts (Err fault) h = tt

-- ---- kinds

plain_kind : (k : Kind) (leaf : Result (List Row) DataFault) → IfOk leaf HaveTexts → IfOk (in_plain k leaf (Err InvalidValue)) HaveTexts
plain_kind Container leaf h = tt
plain_kind Presence leaf h = tt
plain_kind Listing leaf h = tt
plain_kind Leaf leaf h = h
plain_kind LeafList leaf h = tt

array_kind : (k : Kind) (list leaf leaf_list : Result (List Row) DataFault) → IfOk list HaveTexts → IfOk leaf HaveTexts → IfOk leaf_list HaveTexts → IfOk (in_array k list leaf leaf_list (Err InvalidValue)) HaveTexts
array_kind Container list leaf leaf_list h i j = tt
array_kind Presence list leaf leaf_list h i j = tt
array_kind Listing list leaf leaf_list h i j = h
array_kind Leaf list leaf leaf_list h i j = i
array_kind LeafList list leaf leaf_list h i j = j

object_kind : (k : Kind) (container presence : Result (List Row) DataFault) → IfOk container HaveTexts → IfOk presence HaveTexts → IfOk (in_object k container presence (Err InvalidValue)) HaveTexts
object_kind Container container presence h i = h
object_kind Presence container presence h i = i
object_kind Listing container presence h i = tt
object_kind Leaf container presence h i = tt
object_kind LeafList container presence h i = tt

some_kind : (k : Kind) (list leaf_list other : Result (List Row) DataFault) → IfOk list HaveTexts → IfOk leaf_list HaveTexts → IfOk other HaveTexts → IfOk (by_kind k list leaf_list other) HaveTexts
some_kind Container list leaf_list other h i j = j
some_kind Presence list leaf_list other h i j = j
some_kind Listing list leaf_list other h i j = h
some_kind Leaf list leaf_list other h i j = j
some_kind LeafList list leaf_list other h i j = i

-- a key's member brings no row, and that of another child what it holds
unless_key : (b : Bool) (rows : List Row) (read : Result (List Row) DataFault) → HaveTexts rows → IfOk read HaveTexts → IfOk (cond b (Ok rows) read) HaveTexts
unless_key true rows read h i = h
unless_key false rows read h i = i

child_texts : (nodes : List SchemaNode) (parent found : Option ℕ) (rows : List Row) (read : ℕ → Result (List Row) DataFault) → HaveTexts rows → ((n : ℕ) → IfOk (read n) HaveTexts)
    → IfOk (for_child found (Err UnknownElement) (λ n. cond (is_key n parent nodes) (Ok rows) (read n))) HaveTexts
child_texts nodes parent None rows read h each = tt
child_texts nodes parent (Some n) rows read h each = unless_key (is_key n parent nodes) rows (read n) h (each n)

if_keys : (b : Bool) (r : Result (List Row) DataFault) → IfOk r HaveTexts → IfOk (cond b r (Err InvalidValue)) HaveTexts
if_keys true r h = h
if_keys false r h = tt

unless_none : (b : Bool) (r : Result (List Row) DataFault) → IfOk r HaveTexts → IfOk (cond b (Err InvalidValue) r) HaveTexts
unless_none true r h = tt
unless_none false r h = h

if_named : (b : Bool) (r : Result (List Row) DataFault) → IfOk r HaveTexts → IfOk (cond b r (Err UnknownElement)) HaveTexts
if_named true r h = h
if_named false r h = tt

array_texts : (d : Data) (read : Data → Result (List Row) DataFault) → HasUtf8 d → ((e : Data) → HasUtf8 e → IfOk (read e) HaveTexts) → IfOk (array_of_one d read) HaveTexts
array_texts null read u each = tt
array_texts (boolean b) read u each = tt
array_texts (number x) read u each = tt
array_texts (string s) read u each = tt
array_texts (array no_items) read u each = tt
array_texts (array (item d no_items)) read u each = each d u.0
array_texts (array (item d (item e ds))) read u each = tt
array_texts (object ms) read u each = tt

-- ---- what is read

module _ (nodes : List SchemaNode) (schema : IsSchema nodes) where
  past_none : (n : ℕ) (ty : LeafType) → length nodes ≤ n → (node_at n nodes).ty ≡ Some ty → is_type ty ≡ true
  past_none n ty past is =
      let none : None ≡ Some ty = sym (ap (λ (node : SchemaNode). node.ty) (get_or_past nodes n no_node past)) ∙ is in
      cc

  -- the type of a node is a type, where it has one
  pub node_type : (n : ℕ) (ty : LeafType) → (node_at n nodes).ty ≡ Some ty → is_type ty ≡ true
  node_type n ty is = ⊎_elim (λ low. type_is nodes n ty schema low is) (λ past. past_none n ty past is) (cases_lt n (length nodes))

  typed_texts : (n : ℕ) (d : Data) → HasUtf8 d → IfSome (typed_value (node_at n nodes).ty d) (λ value. has_value_text value ≡ true)
  typed_texts n d u =
      elim (node_at n nodes).ty as (λ (o : Option LeafType). (node_at n nodes).ty ≡ o → IfSome (typed_value o d) (λ value. has_value_text value ≡ true)) [
        | None ↦ λ is. tt
        | Some ty ↦ λ is. atoms.value_read ty d (node_type n ty is) u
      ] refl

  typed_atom_texts : (n : ℕ) (d : Data) → HasUtf8 d → IfSome (typed_atom (node_at n nodes).ty d) AtomHasText
  typed_atom_texts n d u = atom_alone (typed_value (node_at n nodes).ty d) (typed_texts n d u)

  valid_atom : (n : ℕ) (d : Data) → HasUtf8 d → IfOk (valid (typed_atom (node_at n nodes).ty d)) AtomHasText
  valid_atom n d u = or_is InvalidValue (typed_atom (node_at n nodes).ty d) AtomHasText (typed_atom_texts n d u)

  valid_value : (n : ℕ) (d : Data) → HasUtf8 d → IfOk (valid (typed_value (node_at n nodes).ty d)) (λ value. has_value_text value ≡ true)
  valid_value n d u = or_is InvalidValue (typed_value (node_at n nodes).ty d) (λ value. has_value_text value ≡ true) (typed_texts n d u)

  key_texts : (k : ℕ) (found : Option Data) → IfSome found HasUtf8 → IfOk (key_in (node_at k nodes).ty found) AtomHasText
  key_texts k None u = tt
  key_texts k (Some d) u = valid_atom k d u

  keys_found_texts : (ks : List ℕ) (ms : Members) → MembersHaveUtf8 ms → IfOk (keys_found nodes ks ms) KeysHaveTexts
  keys_found_texts [] ms u = refl
  keys_found_texts (k ∷ ks) ms u =
      let found = get_member (node_at k nodes).member ms in
      with_key_texts nodes (at_key k (key_in (node_at k nodes).ty found)) (keys_found nodes ks ms)
      (at_key_texts k (key_in (node_at k nodes).ty found) (key_texts k found (member_utf8 (node_at k nodes).member ms u)))
      (keys_found_texts ks ms u)

  keys_texts : (ks : List ℕ) (ms : Members) → MembersHaveUtf8 ms → IfOk (keys_in nodes ks ms) KeysHaveTexts
  keys_texts ks ms u = alone_texts (keys_found nodes ks ms) (keys_found_texts ks ms u)

  abbrev seg_of : ℕ → List Atom → Seg
  seg_of n keys = record { node = n; keys = keys }

  below_texts : (path : List Seg) (n : ℕ) (keys : List Atom) → has_texts path ≡ true → are_texts keys ≡ true → has_texts (below path n keys) ≡ true
  below_texts path n keys h k = texts_on path (seg_of n keys) h k

  leaf_texts : (n : ℕ) (path : List Seg) (d : Data) (rows : List Row) → has_texts path ≡ true → HasUtf8 d → HaveTexts rows → IfOk (leaf_read nodes n path d rows) HaveTexts
  leaf_texts n path d rows keys u h =
      then_is (valid (typed_value (node_at n nodes).ty d)) (λ value. Ok (put_row (row_at (below path n []) value) rows)) (λ value. has_value_text value ≡ true) HaveTexts (valid_value n d u)
      (λ value text. put_texts (below path n []) value rows (below_texts path n [] keys refl) text h)

  value_texts : (n : ℕ) (path : List Seg) (d : Data) (rows : List Row) → has_texts path ≡ true → HasUtf8 d → HaveTexts rows → IfOk (value_read nodes n path d rows) HaveTexts
  value_texts n path d rows keys u h =
      then_is (valid (typed_atom (node_at n nodes).ty d)) (λ atom. entered (below path n (atom ∷ [])) Member rows) AtomHasText HaveTexts (valid_atom n d u)
      (λ atom text. entered_texts (below path n (atom ∷ [])) Member rows (below_texts path n (atom ∷ []) keys (one_text atom text)) refl h)

  leaf_list_texts : (n : ℕ) (path : List Seg) (ds : Items) (rows : List Row) → has_texts path ≡ true → ItemsHaveUtf8 ds → HaveTexts rows → IfOk (leaf_list_read nodes n path ds rows) HaveTexts
  leaf_list_texts n path no_items rows keys u h = h
  leaf_list_texts n path (item d ds) rows keys u h =
      then_is (value_read nodes n path d rows) (λ after. leaf_list_read nodes n path ds after) HaveTexts HaveTexts (value_texts n path d rows keys u.0 h)
      (λ after have. leaf_list_texts n path ds after keys u.1 have)

  plain_texts : (n : ℕ) (path : List Seg) (d : Data) (rows : List Row) → has_texts path ≡ true → HasUtf8 d → HaveTexts rows → IfOk (plain_read nodes n path d rows) HaveTexts
  plain_texts n path d rows keys u h = plain_kind (node_at n nodes).kind (leaf_read nodes n path d rows) (leaf_texts n path d rows keys u h)

  mutual
    members_texts : (ms : Members) (parent : Option ℕ) (path : List Seg) (rows : List Row) → has_texts path ≡ true → MembersHaveUtf8 ms → HaveTexts rows → IfOk (members_read nodes parent path ms rows) HaveTexts
    members_texts no_members parent path rows keys u h = h
    members_texts (member name d ms) parent path rows keys u h =
        then_is (for_child (child_of parent name nodes) (Err UnknownElement) (λ n. cond (is_key n parent nodes) (Ok rows) (node_read nodes n path d rows))) (λ after. members_read nodes parent path ms after) HaveTexts HaveTexts
        (child_texts nodes parent (child_of parent name nodes) rows (λ n. node_read nodes n path d rows) h (λ n. node_texts d n path rows keys u.0 h))
        (λ after have. members_texts ms parent path after keys u.1 have)

    node_texts : (d : Data) (n : ℕ) (path : List Seg) (rows : List Row) → has_texts path ≡ true → HasUtf8 d → HaveTexts rows → IfOk (node_read nodes n path d rows) HaveTexts
    node_texts null n path rows keys u h = plain_texts n path null rows keys u h
    node_texts (boolean b) n path rows keys u h = plain_texts n path (boolean b) rows keys u h
    node_texts (number x) n path rows keys u h = plain_texts n path (number x) rows keys u h
    node_texts (string s) n path rows keys u h = plain_texts n path (string s) rows keys u h
    node_texts (array ds) n path rows keys u h =
        array_kind (node_at n nodes).kind (entries_read nodes n path ds rows) (leaf_read nodes n path (array ds) rows) (leaf_list_read nodes n path ds rows)
        (entries_texts ds n path rows keys u h) (leaf_texts n path (array ds) rows keys u h) (leaf_list_texts n path ds rows keys u h)
    node_texts (object ms) n path rows keys u h =
        let own = below_texts path n [] keys refl in
        let there = put_row (row_at (below path n []) Present) rows in
        object_kind (node_at n nodes).kind (members_read nodes (Some n) (below path n []) ms rows) (members_read nodes (Some n) (below path n []) ms there)
        (members_texts ms (Some n) (below path n []) rows own u h) (members_texts ms (Some n) (below path n []) there own u (put_texts (below path n []) Present rows own refl h))

    entries_texts : (ds : Items) (n : ℕ) (path : List Seg) (rows : List Row) → has_texts path ≡ true → ItemsHaveUtf8 ds → HaveTexts rows → IfOk (entries_read nodes n path ds rows) HaveTexts
    entries_texts no_items n path rows keys u h = h
    entries_texts (item d ds) n path rows keys u h =
        then_is (entry_read nodes n path d rows) (λ after. entries_read nodes n path ds after) HaveTexts HaveTexts (entry_texts d n path rows keys u.0 h)
        (λ after have. entries_texts ds n path after keys u.1 have)

    entry_texts : (d : Data) (n : ℕ) (path : List Seg) (rows : List Row) → has_texts path ≡ true → HasUtf8 d → HaveTexts rows → IfOk (entry_read nodes n path d rows) HaveTexts
    entry_texts null n path rows keys u h = tt
    entry_texts (boolean b) n path rows keys u h = tt
    entry_texts (number x) n path rows keys u h = tt
    entry_texts (string s) n path rows keys u h = tt
    entry_texts (array ds) n path rows keys u h = tt
    entry_texts (object ms) n path rows keys u h =
        then_is (keys_in nodes (node_at n nodes).keys ms) (λ found. entered (below path n found) Present rows >>= λ after. members_read nodes (Some n) (below path n found) ms after) KeysHaveTexts HaveTexts
        (keys_texts (node_at n nodes).keys ms u)
        (λ found texts.
        let own = below_texts path n found keys texts in
        then_is (entered (below path n found) Present rows) (λ after. members_read nodes (Some n) (below path n found) ms after) HaveTexts HaveTexts (entered_texts (below path n found) Present rows own refl h)
        (λ after have. members_texts ms (Some n) (below path n found) after own u have))

  -- ---- at a place

  datastore_texts : (d : Data) → HasUtf8 d → IfOk (datastore_read nodes d) HaveTexts
  datastore_texts null u = tt
  datastore_texts (boolean b) u = tt
  datastore_texts (number x) u = tt
  datastore_texts (string s) u = tt
  datastore_texts (array ds) u = tt
  datastore_texts (object ms) u = members_texts ms None [] [] refl u tt

  named_entry_texts : (n : ℕ) (above : List Seg) (keys : List Atom) (rows : List Row) (d : Data) → has_texts above ≡ true → HaveTexts rows → HasUtf8 d → IfOk (named_entry nodes n above keys d rows) HaveTexts
  named_entry_texts n above keys rows null up h u = tt
  named_entry_texts n above keys rows (boolean b) up h u = tt
  named_entry_texts n above keys rows (number x) up h u = tt
  named_entry_texts n above keys rows (string s) up h u = tt
  named_entry_texts n above keys rows (array ds) up h u = tt
  named_entry_texts n above keys rows (object ms) up h u =
      then_is (keys_in nodes (node_at n nodes).keys ms)
      (λ found. cond (are_keys found keys) (entered (below above n found) Present rows) (Err InvalidValue) >>= λ after. members_read nodes (Some n) (below above n found) ms after) KeysHaveTexts HaveTexts
      (keys_texts (node_at n nodes).keys ms u)
      (λ found texts.
      let own = below_texts above n found up texts in
      then_is (cond (are_keys found keys) (entered (below above n found) Present rows) (Err InvalidValue)) (λ after. members_read nodes (Some n) (below above n found) ms after) HaveTexts HaveTexts
      (if_keys (are_keys found keys) (entered (below above n found) Present rows) (entered_texts (below above n found) Present rows own refl h))
      (λ after have. members_texts ms (Some n) (below above n found) after own u have))

  named_value_texts : (n : ℕ) (above : List Seg) (keys : List Atom) (rows : List Row) (d : Data) → has_texts above ≡ true → HaveTexts rows → HasUtf8 d → IfOk (named_value nodes n above keys d rows) HaveTexts
  named_value_texts n above keys rows d up h u =
      then_is (valid (typed_atom (node_at n nodes).ty d)) (λ atom. cond (are_keys (atom ∷ []) keys) (entered (below above n (atom ∷ [])) Member rows) (Err InvalidValue)) AtomHasText HaveTexts (valid_atom n d u)
      (λ atom text.
      if_keys (are_keys (atom ∷ []) keys) (entered (below above n (atom ∷ [])) Member rows)
      (entered_texts (below above n (atom ∷ [])) Member rows (below_texts above n (atom ∷ []) up (one_text atom text)) refl h))

  named_texts : (n : ℕ) (above : List Seg) (keys : List Atom) (d : Data) (rows : List Row) → has_texts above ≡ true → HaveTexts rows → HasUtf8 d → IfOk (named_read nodes n above keys d rows) HaveTexts
  named_texts n above keys d rows up h u =
      some_kind (node_at n nodes).kind (array_of_one d (λ e. named_entry nodes n above keys e rows)) (array_of_one d (λ e. named_value nodes n above keys e rows)) (node_read nodes n above d rows)
      (array_texts d (λ e. named_entry nodes n above keys e rows) u (λ e v. named_entry_texts n above keys rows e up h v))
      (array_texts d (λ e. named_value nodes n above keys e rows) u (λ e v. named_value_texts n above keys rows e up h v))
      (node_texts d n above rows up u h)

  outer_texts : (n : ℕ) (above : List Seg) (keys : List Atom) (ms : Members) (rows : List Row) → has_texts above ≡ true → HaveTexts rows → MembersHaveUtf8 ms → IfOk (outer_read nodes n above keys ms rows) HaveTexts
  outer_texts n above keys no_members rows up h u = h
  outer_texts n above keys (member name d ms) rows up h u =
      let is = pointwise nat_eq name (qualified_name (node_at n nodes)) in
      then_is (cond is (named_read nodes n above keys d rows) (Err UnknownElement)) (λ after. outer_read nodes n above keys ms after) HaveTexts HaveTexts
      (if_named is (named_read nodes n above keys d rows) (named_texts n above keys d rows up h u.0))
      (λ after have. outer_texts n above keys ms after up have u.1)

  object_texts : (n : ℕ) (above : List Seg) (keys : List Atom) (d : Data) → has_texts above ≡ true → HasUtf8 d → IfOk (object_read nodes n above keys d) HaveTexts
  object_texts n above keys null up u = tt
  object_texts n above keys (boolean b) up u = tt
  object_texts n above keys (number x) up u = tt
  object_texts n above keys (string s) up u = tt
  object_texts n above keys (array ds) up u = tt
  object_texts n above keys (object ms) up u = unless_none (has_no_members ms) (outer_read nodes n above keys ms []) (outer_texts n above keys ms [] up tt u)

  last_texts : (segs above : List Seg) (seg : Seg) (d : Data) → has_texts above ≡ true → has_texts (seg ∷ segs) ≡ true → HasUtf8 d → IfOk (last_read nodes above seg segs d) HaveTexts
  last_texts [] above seg d up texts u = object_texts seg.node above seg.keys d up u
  last_texts (next ∷ segs) above seg d up texts u =
      let parts = and_parts (are_texts seg.keys) (has_texts (next ∷ segs)) texts in
      last_texts segs (above ++ seg ∷ []) next d (texts_on above seg up parts.0) parts.1 u

  -- rows that are read at a place
  pub rows_texts : (at : List Seg) (d : Data) → has_texts at ≡ true → HasUtf8 d → IfOk (rows_read nodes at d) HaveTexts
  rows_texts [] d texts u = datastore_texts d u
  rows_texts (seg ∷ segs) d texts u = last_texts segs [] seg d refl texts u
