-- The JSON of rows is readable: members stand in the order of their names, and texts are UTF-8.
use Rattle.std.proofs.Common.{◌≡◌, ℕ, suc, ◌<◌, ◌≤◌, ◌-◌, ◌^◌, ◌==◌, ◌&&◌, ◌||◌, ◌⊎◌, inl, inr, ⊎_elim, not, pos, negsuc, ℤ, List, [], ◌∷◌, ◌++◌, length, drop, Bool, true, false, true≢false, cond, Option, Some, None, Less, Equal, Greater, nat_cmp, nat_eq, nat_le, nat_lt, All, IsUtf8, refl, sym, ap, ap₂, subst, ◌∙◌, arith}
use Rattle.std.specs.List.{AllByRecursion}
use Rattle.std.specs.Str.{is_utf8}
use Rattle.std.specs.Cmp.Lexicographic.{slice_cmp, nat_list_cmp_total}
use Rattle.std.specs.Ordering.{eq_by_cmp, is_eq, ordering_reverse, ordering_then, match_ordering}
use Rattle.std.proofs.lemmas.Bool.{and_parts, and_from, eq-eqb, eqb-true, leb-true, lt-ltb}
use Rattle.std.proofs.lemmas.Cmp.{ranked, tied_itself}
use Rattle.std.proofs.lemmas.List.Elements.{All-head, All-tail}
use Rattle.std.proofs.lemmas.Str.{IsUtf8-append, IsUtf8-from_is_utf8}
use Rattle.json.proofs.Printed.Utf8.{are_ascii, IsUtf8-are_ascii}
use Rattle.serde_json.specs.Data.{unsigned, Data, number, string, Members, no_members, member, put}
use Rattle.serde_json.specs.Find.{of_integer}
use Rattle.yp_base.specs.declared.atom.Atom.{Atom}
use Rattle.yp_base.specs.declared.atom.Atom.TheVariants.{Bool as Truth, Int, Uint, Dec, Text}
use Rattle.yp_base.specs.declared.leaf_type.LeafType.{LeafType}
use Rattle.yp_base.specs.declared.leaf_type.LeafType.TheVariants.{Bool as TruthType, Int as IntType, Uint as UintType, Dec as DecType, Text as TextType, Names, Empty as EmptyType}
use Rattle.yp_base.specs.declared.row.Value.{Value}
use Rattle.yp_base.specs.declared.row.Value.TheVariants.{Atom as Plain, Member, Empty, Present}
use Rattle.yp_value.specs.Json.{atom_data, value_data, value_fits, has_string_numbers}
use Rattle.yp_value.specs.TextLaws.{or_else, widths_fit}
use Rattle.yp_value.specs.Texts.{atom_text, fits, is_between}
use Rattle.yp_base.specs.Types.{is_type, is_width}
use Rattle.yp_base.specs.declared.path.Seg.{Seg}
use Rattle.yp_base.specs.declared.row.Row.{Row}
use Rattle.yp_base.specs.Order.{atom_cmp, segment_cmp, path_cmp, is_within}
use Rattle.yp_base.specs.OrderLaws.{segments_total}
use Rattle.yp_base.specs.Exact.{segments_decide}
use Rattle.yp_base.specs.PathLaws.{numbers_same, within_rest, are_one}
use Rattle.yp_base.specs.Paths.{same_number, last_segment, above_last}
use Rattle.yp_base.specs.Rows.{AreInOrder, value_at}
use Rattle.yp_base.specs.RowLaws.{AllPast, first_order, rest_order}
use Rattle.yp_schema.specs.declared.schema.SchemaNode.{SchemaNode}
use Rattle.yp_schema.specs.declared.schema.Kind.{Kind}
use Rattle.yp_schema.specs.declared.schema.Kind.TheVariants.{Container, Presence, List as Listing, Leaf, LeafList}
use Rattle.yp_schema.specs.Nodes.{node_at, qualified_name}
use Rattle.yp_names.specs.Names.{is_letter, begins_name, goes_on_name, go_on_name, is_identifier}
use Rattle.yp_schema.specs.WellFormed.{IsSchema, is_at_home}
use Rattle.yp_schema.specs.Datastore.{atom_fits, typed_fits, keys_fit, one_fits, is_segment, keys_of_kind, value_of_kind, may_end, goes_to_row, goes_down, is_path_of, is_place, ends_in_key, IsRowOf, AreWritable}
use Rattle.yp_schema.specs.SchemaLaws.{type_is, keys_within, segment_within, node_after, end_segment, end_kind, row_ends, path_down, last_is_segment, plain_fits, empty_keys}
use Rattle.yp_path.specs.Targets.{are_texts, has_texts}
use Rattle.yp_data_json.specs.Runs.{StandsBefore, has_items, GoesOn}
use Rattle.yp_data_json.specs.Forest.{Forest, bare, branch, own_of, laid, forest_at}
use Rattle.yp_data_json.specs.Writing.{leaf_data, key_data, one_key_data, with_keys, item_data, Entry, Gathered, no_nodes, single, entries, entry_in_front, branch_in_front, members_of, gathered, members_in, place_data, rows_json}
use Rattle.yp_data_json.specs.RunLaws.{before_put}
use Rattle.yp_receiver.specs.Readable.{has_value_text, HaveTexts, IsWhole, IsReadable, MembersAreReadable}

-- ---- values

low_enough : (k n : ℕ) → n ≤ k - 1 → k ≤ 2 ^ 63 → n < 2 ^ 64
low_enough k n h low = omega arith

not_too_low : (k n : ℕ) → suc n ≤ k → k ≤ 2 ^ 63 → n < 2 ^ 63
not_too_low k n h low = omega arith

below_width : (k n : ℕ) → n ≤ k → k < 2 ^ 64 → n < 2 ^ 64
below_width k n h low = omega arith

int_whole : (bits : ℕ) (z : ℤ) → is_width bits ≡ true → is_between (2 ^ (bits - 1)) (2 ^ (bits - 1) - 1) z ≡ true → IsWhole (of_integer z)
int_whole bits (pos n) width h = low_enough (2 ^ (bits - 1)) n (leb-true n (2 ^ (bits - 1) - 1) h) (widths_fit bits width).0
int_whole bits (negsuc n) width h = not_too_low (2 ^ (bits - 1)) n (leb-true (suc n) (2 ^ (bits - 1)) h) (widths_fit bits width).0

either : (t : Bool) (one two : Data) → IsReadable one → IsReadable two → IsReadable (cond t one two)
either true one two h k = h
either false one two h k = k

int_readable : (ty : LeafType) (z : ℤ) → is_type ty ≡ true → fits ty (Int z) ≡ true → IsWhole (of_integer z)
int_readable TruthType z t h = absurd (true≢false (sym h))
int_readable (IntType bits) z t h = int_whole bits z t h
int_readable (UintType bits) z t h = absurd (true≢false (sym h))
int_readable (DecType places) z t h = absurd (true≢false (sym h))
int_readable TextType z t h = absurd (true≢false (sym h))
int_readable (Names names) z t h = absurd (true≢false (sym h))
int_readable EmptyType z t h = absurd (true≢false (sym h))

uint_readable : (ty : LeafType) (n : ℕ) → is_type ty ≡ true → fits ty (Uint n) ≡ true → n < 2 ^ 64
uint_readable TruthType n t h = absurd (true≢false (sym h))
uint_readable (IntType bits) n t h = absurd (true≢false (sym h))
uint_readable (UintType bits) n t h = below_width (2 ^ bits - 1) n (leb-true n (2 ^ bits - 1) h) (widths_fit bits t).1
uint_readable (DecType places) n t h = absurd (true≢false (sym h))
uint_readable TextType n t h = absurd (true≢false (sym h))
uint_readable (Names names) n t h = absurd (true≢false (sym h))
uint_readable EmptyType n t h = absurd (true≢false (sym h))

atom_readable : (ty : LeafType) (atom : Atom) → is_type ty ≡ true → fits ty atom ≡ true → is_utf8 (atom_text atom) ≡ true → IsReadable (atom_data ty atom)
atom_readable ty (Truth truth) t h u = tt
atom_readable ty (Int z) t h u = either (has_string_numbers ty) (string (atom_text (Int z))) (number (of_integer z)) (IsUtf8-from_is_utf8 (atom_text (Int z)) u) (int_readable ty z t h)
atom_readable ty (Uint n) t h u =
    either (has_string_numbers ty) (string (atom_text (Uint n))) (number (unsigned n)) (IsUtf8-from_is_utf8 (atom_text (Uint n)) u) (uint_readable ty n t h)
atom_readable ty (Dec places units) t h u = IsUtf8-from_is_utf8 (atom_text (Dec places units)) u
atom_readable ty (Text text) t h u = IsUtf8-from_is_utf8 text u

-- ---- members put in their places

after_turned : (name other : List ℕ) → slice_cmp nat_cmp name other ≡ Greater → slice_cmp nat_cmp other name ≡ Less
after_turned name other h = nat_list_cmp_total.antisymm other name ∙ ap ordering_reverse h

put_readable : (name : List ℕ) (d : Data) (ms : Members) → IsUtf8 name → IsReadable d → MembersAreReadable ms → MembersAreReadable (put name d ms)
put_readable name d no_members u one h = (u, (tt, (one, tt)))
put_readable name d (member other e ms) u one h =
    elim (slice_cmp nat_cmp name other) as (λ o. slice_cmp nat_cmp name other ≡ o → MembersAreReadable (match_ordering o (member name d (member other e ms)) (member other d ms) (member other e (put name d ms)))) [
      | Less ↦ λ is. (u, (is, (one, h)))
      | Equal ↦ λ is. (h.0, (h.1.0, (one, h.1.1.1)))
      | Greater ↦ λ is. (h.0, (before_put other name d ms (after_turned name other is) h.1.0, (h.1.1.0, put_readable name d ms u one h.1.1.1)))
    ] refl

-- ---- names are ASCII

letter_small : (b : ℕ) → is_letter b ≡ true → b < 128
letter_small b h =
    or_else (b < 128) (nat_le 97 b && nat_le b 122) (nat_le 65 b && nat_le b 90)
    (λ e. let top = leb-true b 122 (and_parts (nat_le 97 b) (nat_le b 122) e).1 in omega arith)
    (λ e. let top = leb-true b 90 (and_parts (nat_le 65 b) (nat_le b 90) e).1 in omega arith) h

pub is_small : (b n : ℕ) → n < 128 → (b == n) ≡ true → b < 128
is_small b n low h = let same : b ≡ n = eqb-true b n h in omega arith

begins_small : (b : ℕ) → begins_name b ≡ true → b < 128
begins_small b h = or_else (b < 128) (is_letter b) (b == 95) (letter_small b) (is_small b 95 (omega arith)) h

goes_on_small : (b : ℕ) → goes_on_name b ≡ true → b < 128
goes_on_small b h =
    or_else (b < 128) (begins_name b || (nat_le 48 b && nat_le b 57) || b == 45) (b == 46)
    (λ k. or_else (b < 128) (begins_name b || (nat_le 48 b && nat_le b 57)) (b == 45)
    (λ l. or_else (b < 128) (begins_name b) (nat_le 48 b && nat_le b 57) (begins_small b) (λ e. let top = leb-true b 57 (and_parts (nat_le 48 b) (nat_le b 57) e).1 in omega arith) l)
    (is_small b 45 (omega arith)) k)
    (is_small b 46 (omega arith)) h

rest_ascii : (bs : List ℕ) → go_on_name bs ≡ true → are_ascii bs ≡ true
rest_ascii [] h = refl
rest_ascii (b ∷ bs) h =
    let parts = and_parts (goes_on_name b) (go_on_name bs) h in
    and_from (nat_lt b 128) (are_ascii bs) (lt-ltb b 128 (goes_on_small b parts.0)) (rest_ascii bs parts.1)

identifier_utf8 : (text : List ℕ) → is_identifier text ≡ true → IsUtf8 text
identifier_utf8 [] h = absurd (true≢false (sym h))
identifier_utf8 (b ∷ bs) h =
    let parts = and_parts (begins_name b) (go_on_name bs) h in
    IsUtf8-are_ascii (b ∷ bs) (and_from (nat_lt b 128) (are_ascii bs) (lt-ltb b 128 (begins_small b parts.0)) (rest_ascii bs parts.1))

qualified_utf8 : (node : SchemaNode) → IsUtf8 node.home → IsUtf8 node.name → IsUtf8 (qualified_name node)
qualified_utf8 node home name = IsUtf8-append node.home (58 ∷ node.name) home (IsUtf8-append (58 ∷ []) node.name (IsUtf8-are_ascii (58 ∷ []) refl) name)

form_utf8 : (at_home : Bool) (node : SchemaNode) → IsUtf8 node.home → IsUtf8 node.name → IsUtf8 (cond at_home node.name (qualified_name node))
form_utf8 true node home name = name
form_utf8 false node home name = qualified_utf8 node home name

-- ---- leaves and keys

value_readable : (ty : LeafType) (value : Value) → is_type ty ≡ true → value_fits ty value ≡ true → has_value_text value ≡ true → IsReadable (value_data ty value)
value_readable ty (Plain atom) t h u = atom_readable ty atom t h u
value_readable ty Member t h u = tt
value_readable ty Empty t h u = (tt, tt)
value_readable ty Present t h u = tt

abbrev HasType : Option LeafType → Type 0
HasType o = (ty : LeafType) → o ≡ Some ty → is_type ty ≡ true

leaf_readable : (o : Option LeafType) (value : Value) → HasType o → typed_fits o value ≡ true → has_value_text value ≡ true → IsReadable (leaf_data o (Some value))
leaf_readable None value typed h u = tt
leaf_readable (Some ty) value typed h u = value_readable ty value (typed ty refl) h u

key_readable : (o : Option LeafType) (key : Atom) → HasType o → atom_fits o key ≡ true → is_utf8 (atom_text key) ≡ true → IsReadable (key_data o key)
key_readable o key typed h u = leaf_readable o (Plain key) typed (plain_fits o key h) u

one_key_readable : (o : Option LeafType) (keys : List Atom) → HasType o → one_fits o keys ≡ true → are_texts keys ≡ true → IsReadable (one_key_data o keys)
one_key_readable o [] typed h u = tt
one_key_readable o (key ∷ []) typed h u = key_readable o key typed h (and_parts (is_utf8 (atom_text key)) true u).0
one_key_readable o (key ∷ other ∷ keys) typed h u = absurd (true≢false (sym h))

-- ---- segments

-- a segment of a schema below a node, whose keys are texts
record Goes (nodes : List SchemaNode) (parent : Option ℕ) (seg : Seg) : Type 0 where
  segment : is_segment nodes seg ≡ true
  child : same_number (node_at seg.node nodes).parent parent ≡ true
  texts : are_texts seg.keys ≡ true

-- a row at or below a place, by what its path has behind it
record Under (nodes : List SchemaNode) (at : List Seg) (row : Row) : Type 0 where
  rest : List Seg
  path : row.path ≡ at ++ rest
  goes : GoesOn nodes (node_after None at) rest row.value
  texts : has_texts rest ≡ true
  value : has_value_text row.value ≡ true

segment_keys : (nodes : List SchemaNode) (seg : Seg) → is_segment nodes seg ≡ true → keys_of_kind (node_at seg.node nodes).kind nodes (node_at seg.node nodes) seg.keys ≡ true
segment_keys nodes seg is = (and_parts (nat_lt seg.node (length nodes)) (keys_of_kind (node_at seg.node nodes).kind nodes (node_at seg.node nodes) seg.keys) is).1

-- a node without entries asks for no keys
no_keys : (nodes : List SchemaNode) (k : Kind) (node : SchemaNode) (keys : List Atom) → has_items k ≡ false → keys_of_kind k nodes node keys ≡ true → keys ≡ []
no_keys nodes Container node keys alone h = empty_keys keys h
no_keys nodes Presence node keys alone h = empty_keys keys h
no_keys nodes Listing node keys alone h = absurd (true≢false alone)
no_keys nodes Leaf node keys alone h = empty_keys keys h
no_keys nodes LeafList node keys alone h = absurd (true≢false alone)

same_itself : (o : Option ℕ) → same_number o o ≡ true
same_itself None = refl
same_itself (Some n) = eq-eqb n n refl

greater_is_not : Greater ≡ Less → ⊥
greater_is_not h = cc

-- a segment before another is of an earlier node, or has earlier keys
by_segment : {A : Type 0} (one two : Seg) → segment_cmp one two ≡ Less → (one.node < two.node → A) → (one.node ≡ two.node → slice_cmp atom_cmp one.keys two.keys ≡ Less → A) → A
by_segment {A} one two less earlier same =
    elim (nat_cmp one.node two.node) as (λ o. nat_cmp one.node two.node ≡ o → ordering_then o (slice_cmp atom_cmp one.keys two.keys) ≡ Less → A) [
      | Less ↦ λ is h. earlier (ranked one.node two.node Less (sym is))
      | Equal ↦ λ is h. same (ranked one.node two.node Equal (sym is)) h
      | Greater ↦ λ is h. let wrong : Greater ≡ Less = h in absurd (greater_is_not wrong)
    ] refl less

none_readable : (o : Option LeafType) → IsReadable (leaf_data o None)
none_readable None = tt
none_readable (Some ty) = tt

module _ (nodes : List SchemaNode) (schema : IsSchema nodes) where
  abbrev name_of_node : ℕ → List ℕ
  name_of_node n = (node_at n nodes).member

  pub name_utf8 : (n : ℕ) → n < length nodes → IsUtf8 (name_of_node n)
  name_utf8 n low =
      let stands = schema.each n low in
      let node = node_at n nodes in
      let home = identifier_utf8 node.home (and_parts (is_identifier node.home) (nat_le (length node.home) 64) stands.module_name).0 in
      let name = identifier_utf8 node.name (and_parts (is_identifier node.name) (nat_le (length node.name) 64) stands.node_name).0 in
      subst IsUtf8 (sym stands.form) (form_utf8 (is_at_home node.parent node.home nodes) node home name)

  has_type : (n : ℕ) → n < length nodes → HasType (node_at n nodes).ty
  has_type n low = λ ty e. type_is nodes n ty schema low e

  keys_readable : (ks : List ℕ) (keys : List Atom) (ms : Members) → All (λ k. k < length nodes) ks → keys_fit nodes ks keys ≡ true → are_texts keys ≡ true → MembersAreReadable ms → MembersAreReadable (with_keys nodes ks keys ms)
  keys_readable [] keys ms low fit u h = h
  keys_readable (k ∷ ks) [] ms low fit u h = h
  keys_readable (k ∷ ks) (key ∷ keys) ms low fit u h =
      let here = All-head (λ j. j < length nodes) k ks low in
      let fits = and_parts (atom_fits (node_at k nodes).ty key) (keys_fit nodes ks keys) fit in
      let texts = and_parts (is_utf8 (atom_text key)) (are_texts keys) u in
      keys_readable ks keys (put (name_of_node k) (key_data (node_at k nodes).ty key) ms) (All-tail (λ j. j < length nodes) k ks low) fits.1 texts.1
      (put_readable (name_of_node k) (key_data (node_at k nodes).ty key) ms (name_utf8 k here) (key_readable (node_at k nodes).ty key (has_type k here) fits.0 texts.0) h)

  -- ---- what is gathered

  -- what is gathered of other nodes stands after the member of a node, but for entries of that node
  abbrev StartsAfter : ℕ → Gathered → Type 0
  StartsAfter n no_nodes = Unit {0}
  StartsAfter n (single m d g) = slice_cmp nat_cmp (name_of_node n) (name_of_node m) ≡ Less
  StartsAfter n (entries m es g) = nat_eq n m ≡ false → slice_cmp nat_cmp (name_of_node n) (name_of_node m) ≡ Less

  entry_at : (t : Bool) (n m : ℕ) (e : Entry) (es : List Entry) (g : Gathered) → nat_eq n m ≡ t → n < length nodes → IsReadable e.json → StartsAfter n (entries m es g) → MembersAreReadable (members_of nodes (entries m es g))
      → MembersAreReadable (members_of nodes (cond t (entries m (e ∷ es) g) (entries n (e ∷ []) (entries m es g))))
  entry_at true n m e es g is low one after h = (h.0, (h.1.0, ((one, h.1.1.0), h.1.1.1)))
  entry_at false n m e es g is low one after h = (name_utf8 n low, (after is, ((one, tt), h)))

  entry_readable : (n : ℕ) (e : Entry) (g : Gathered) → n < length nodes → IsReadable e.json → StartsAfter n g → MembersAreReadable (members_of nodes g) → MembersAreReadable (members_of nodes (entry_in_front n e g))
  entry_readable n e no_nodes low one after h = (name_utf8 n low, (tt, ((one, tt), tt)))
  entry_readable n e (single m d g) low one after h = (name_utf8 n low, (after, ((one, tt), h)))
  entry_readable n e (entries m es g) low one after h = entry_at (nat_eq n m) n m e es g refl low one after h

  item_readable : (seg : Seg) (kids : Members) → is_segment nodes seg ≡ true → are_texts seg.keys ≡ true → MembersAreReadable kids → (k : Kind) → (node_at seg.node nodes).kind ≡ k
      → IsReadable (item_data nodes k (node_at seg.node nodes) seg kids)
  item_readable seg kids is u h Container e = tt
  item_readable seg kids is u h Presence e = tt
  item_readable seg kids is u h Listing e =
      keys_readable (node_at seg.node nodes).keys seg.keys kids (keys_within nodes seg.node schema (segment_within nodes seg is))
      (sym (ap (λ (j : Kind). keys_of_kind j nodes (node_at seg.node nodes) seg.keys) e) ∙ segment_keys nodes seg is) u h
  item_readable seg kids is u h Leaf e = tt
  item_readable seg kids is u h LeafList e =
      one_key_readable (node_at seg.node nodes).ty seg.keys (has_type seg.node (segment_within nodes seg is))
      (sym (ap (λ (j : Kind). keys_of_kind j nodes (node_at seg.node nodes) seg.keys) e) ∙ segment_keys nodes seg is) u

  -- ---- forests

  abbrev OwnFits : SchemaNode → Option Value → Type 0
  OwnFits node None = Unit {0}
  OwnFits node (Some value) = (value_of_kind node.kind node.ty value ≡ true) × (has_value_text value ≡ true)

  -- a first segment before that of a forest
  abbrev StartsLater : Seg → Forest → Type 0
  StartsLater seg bare = Unit {0}
  StartsLater seg (branch first own kids next) = segment_cmp seg first ≡ Less

  -- a forest of the schema below a node, in order
  abbrev Grows : Option ℕ → Forest → Type 0
  Grows parent bare = Unit {0}
  Grows parent (branch seg own kids next) = Goes nodes parent seg × (OwnFits (node_at seg.node nodes) own × (Grows (Some seg.node) kids × (StartsLater seg next × Grows parent next)))

  name_less : (parent : Option ℕ) (one two : Seg) → Goes nodes parent one → Goes nodes parent two → one.node < two.node → slice_cmp nat_cmp (name_of_node one.node) (name_of_node two.node) ≡ Less
  name_less parent one two goes other less =
      schema.siblings one.node two.node less (segment_within nodes two other.segment)
      (ap₂ same_number (numbers_same (node_at one.node nodes).parent parent goes.child) (numbers_same (node_at two.node nodes).parent parent other.child) ∙ same_itself parent)

  other_less : (parent : Option ℕ) (one two : Seg) → Goes nodes parent one → Goes nodes parent two → segment_cmp one two ≡ Less → nat_eq one.node two.node ≡ false → slice_cmp nat_cmp (name_of_node one.node) (name_of_node two.node) ≡ Less
  other_less parent one two goes other less differs =
      by_segment one two less (name_less parent one two goes other) (λ same keys. absurd (true≢false (sym (eq-eqb one.node two.node same) ∙ differs)))

  -- a node without entries has one segment
  one_less : (parent : Option ℕ) (one two : Seg) → Goes nodes parent one → Goes nodes parent two → segment_cmp one two ≡ Less → has_items (node_at one.node nodes).kind ≡ false
      → slice_cmp nat_cmp (name_of_node one.node) (name_of_node two.node) ≡ Less
  one_less parent one two goes other less alone =
      by_segment one two less (name_less parent one two goes other) (λ same keys.
      let first : one.keys ≡ [] = no_keys nodes (node_at one.node nodes).kind (node_at one.node nodes) one.keys alone (segment_keys nodes one goes.segment) in
      let second : two.keys ≡ [] = no_keys nodes (node_at two.node nodes).kind (node_at two.node nodes) two.keys (ap (λ n. has_items (node_at n nodes).kind) (sym same) ∙ alone) (segment_keys nodes two other.segment) in
      let wrong : Equal ≡ Less = sym (ap₂ (slice_cmp atom_cmp) first second) ∙ keys in
      cc)

  -- a node with entries isn't one without
  list_less : (parent : Option ℕ) (one two : Seg) → Goes nodes parent one → Goes nodes parent two → segment_cmp one two ≡ Less → has_items (node_at one.node nodes).kind ≡ true → has_items (node_at two.node nodes).kind ≡ false
      → slice_cmp nat_cmp (name_of_node one.node) (name_of_node two.node) ≡ Less
  list_less parent one two goes other less items alone =
      by_segment one two less (name_less parent one two goes other) (λ same keys. absurd (true≢false (sym items ∙ ap (λ n. has_items (node_at n nodes).kind) same ∙ alone)))

  -- ---- the first member of what is gathered

  after_at : (t : Bool) (n m j : ℕ) (e : Entry) (es : List Entry) (g : Gathered) → nat_eq m j ≡ t → (nat_eq n m ≡ false → slice_cmp nat_cmp (name_of_node n) (name_of_node m) ≡ Less)
      → StartsAfter n (cond t (entries j (e ∷ es) g) (entries m (e ∷ []) (entries j es g)))
  after_at true n m j e es g is differs = subst (λ i. nat_eq n i ≡ false → slice_cmp nat_cmp (name_of_node n) (name_of_node i) ≡ Less) (eqb-true m j is) differs
  after_at false n m j e es g is differs = differs

  entry_after : (n m : ℕ) (e : Entry) (g : Gathered) → (nat_eq n m ≡ false → slice_cmp nat_cmp (name_of_node n) (name_of_node m) ≡ Less) → StartsAfter n (entry_in_front m e g)
  entry_after n m e no_nodes differs = differs
  entry_after n m e (single j d g) differs = differs
  entry_after n m e (entries j es g) differs = after_at (nat_eq m j) n m j e es g refl differs

  branch_after : (n : ℕ) (k : Kind) (node : SchemaNode) (seg : Seg) (own : Option Value) (kids : Members) (g : Gathered)
      → (nat_eq n seg.node ≡ false → slice_cmp nat_cmp (name_of_node n) (name_of_node seg.node) ≡ Less)
      → (has_items k ≡ false → slice_cmp nat_cmp (name_of_node n) (name_of_node seg.node) ≡ Less) → StartsAfter n (branch_in_front nodes k node seg own kids g)
  branch_after n Container node seg own kids g differs alone = alone refl
  branch_after n Presence node seg own kids g differs alone = alone refl
  branch_after n Listing node seg own kids g differs alone = entry_after n seg.node (record { keys = seg.keys; json = item_data nodes Listing node seg kids }) g differs
  branch_after n Leaf node seg own kids g differs alone = alone refl
  branch_after n LeafList node seg own kids g differs alone = entry_after n seg.node (record { keys = seg.keys; json = item_data nodes LeafList node seg kids }) g differs

  stands_at : (t : Bool) (name : List ℕ) (m j : ℕ) (e : Entry) (es : List Entry) (g : Gathered) → nat_eq m j ≡ t → slice_cmp nat_cmp name (name_of_node m) ≡ Less
      → StandsBefore name (members_of nodes (cond t (entries j (e ∷ es) g) (entries m (e ∷ []) (entries j es g))))
  stands_at true name m j e es g is less = subst (λ i. slice_cmp nat_cmp name (name_of_node i) ≡ Less) (eqb-true m j is) less
  stands_at false name m j e es g is less = less

  entry_stands : (name : List ℕ) (m : ℕ) (e : Entry) (g : Gathered) → slice_cmp nat_cmp name (name_of_node m) ≡ Less → StandsBefore name (members_of nodes (entry_in_front m e g))
  entry_stands name m e no_nodes less = less
  entry_stands name m e (single j d g) less = less
  entry_stands name m e (entries j es g) less = stands_at (nat_eq m j) name m j e es g refl less

  branch_stands : (name : List ℕ) (k : Kind) (node : SchemaNode) (seg : Seg) (own : Option Value) (kids : Members) (g : Gathered) → slice_cmp nat_cmp name (name_of_node seg.node) ≡ Less
      → StandsBefore name (members_of nodes (branch_in_front nodes k node seg own kids g))
  branch_stands name Container node seg own kids g less = less
  branch_stands name Presence node seg own kids g less = less
  branch_stands name Listing node seg own kids g less = entry_stands name seg.node (record { keys = seg.keys; json = item_data nodes Listing node seg kids }) g less
  branch_stands name Leaf node seg own kids g less = less
  branch_stands name LeafList node seg own kids g less = entry_stands name seg.node (record { keys = seg.keys; json = item_data nodes LeafList node seg kids }) g less

  list_after : (parent : Option ℕ) (seg : Seg) (next : Forest) → Goes nodes parent seg → Grows parent next → StartsLater seg next → has_items (node_at seg.node nodes).kind ≡ true → StartsAfter seg.node (gathered nodes next)
  list_after parent seg bare goes grows later items = tt
  list_after parent seg (branch first own kids next) goes grows later items =
      branch_after seg.node (node_at first.node nodes).kind (node_at first.node nodes) first own (members_in nodes kids) (gathered nodes next)
      (other_less parent seg first goes grows.0 later) (list_less parent seg first goes grows.0 later items)

  one_stands : (parent : Option ℕ) (seg : Seg) (next : Forest) → Goes nodes parent seg → Grows parent next → StartsLater seg next → has_items (node_at seg.node nodes).kind ≡ false
      → StandsBefore (name_of_node seg.node) (members_in nodes next)
  one_stands parent seg bare goes grows later alone = tt
  one_stands parent seg (branch first own kids next) goes grows later alone =
      branch_stands (name_of_node seg.node) (node_at first.node nodes).kind (node_at first.node nodes) first own (members_in nodes kids) (gathered nodes next)
      (one_less parent seg first goes grows.0 later alone)

  own_readable : (node : SchemaNode) (own : Option Value) → HasType node.ty → node.kind ≡ Leaf → OwnFits node own → IsReadable (leaf_data node.ty own)
  own_readable node None typed e fits = none_readable node.ty
  own_readable node (Some value) typed e fits = leaf_readable node.ty value typed (sym (ap (λ (k : Kind). value_of_kind k node.ty value) e) ∙ fits.0) fits.1

  -- the members of a forest are readable
  grown_readable : (parent : Option ℕ) (f : Forest) → Grows parent f → MembersAreReadable (members_in nodes f)
  grown_readable parent bare h = tt
  grown_readable parent (branch seg own kids next) h =
      let goes = h.0 in
      let node = node_at seg.node nodes in
      let low = segment_within nodes seg goes.segment in
      let below = grown_readable (Some seg.node) kids h.1.1.0 in
      let later = grown_readable parent next h.1.1.1.1 in
      elim node.kind as (λ (k : Kind). node.kind ≡ k → MembersAreReadable (members_of nodes (branch_in_front nodes k node seg own (members_in nodes kids) (gathered nodes next)))) [
        | Container ↦ λ e. (name_utf8 seg.node low, (one_stands parent seg next goes h.1.1.1.1 h.1.1.1.0 (ap has_items e), (below, later)))
        | Presence ↦ λ e. (name_utf8 seg.node low, (one_stands parent seg next goes h.1.1.1.1 h.1.1.1.0 (ap has_items e), (below, later)))
        | Listing ↦ λ e.
            entry_readable seg.node (record { keys = seg.keys; json = item_data nodes Listing node seg (members_in nodes kids) }) (gathered nodes next) low
            (item_readable seg (members_in nodes kids) goes.segment goes.texts below Listing e) (list_after parent seg next goes h.1.1.1.1 h.1.1.1.0 (ap has_items e)) later
        | Leaf ↦ λ e. (name_utf8 seg.node low, (one_stands parent seg next goes h.1.1.1.1 h.1.1.1.0 (ap has_items e), (own_readable node own (has_type seg.node low) e h.1.0, later)))
        | LeafList ↦ λ e.
            entry_readable seg.node (record { keys = seg.keys; json = item_data nodes LeafList node seg (members_in nodes kids) }) (gathered nodes next) low
            (item_readable seg (members_in nodes kids) goes.segment goes.texts below LeafList e) (list_after parent seg next goes h.1.1.1.1 h.1.1.1.0 (ap has_items e)) later
      ] refl

  -- ---- a row laid in front of a forest

  -- a path before all that a forest has
  abbrev Before : List Seg → Forest → Type 0
  Before [] f = Unit {0}
  Before (seg ∷ rest) bare = Unit {0}
  Before (seg ∷ rest) (branch first own kids next) = (segment_cmp seg first ≡ Less) ⊎ ((segment_cmp seg first ≡ Equal) × Before rest kids)

  before_bare : (rest : List Seg) → Before rest bare
  before_bare [] = tt
  before_bare (seg ∷ rest) = tt

  goes_first : (parent : Option ℕ) (seg : Seg) (rest : List Seg) (value : Value) → goes_to_row nodes parent (seg ∷ rest) value ≡ true → are_texts seg.keys ≡ true → Goes nodes parent seg
  goes_first parent seg [] value goes texts =
      let p = and_parts (same_number (node_at seg.node nodes).parent parent) (may_end nodes seg value) goes in
      record { segment = end_segment nodes seg value p.1; child = p.0; texts = texts }
  goes_first parent seg (after ∷ segs) value goes texts =
      let p = and_parts (same_number (node_at seg.node nodes).parent parent && is_segment nodes seg) (goes_to_row nodes (Some seg.node) (after ∷ segs) value) goes in
      let q = and_parts (same_number (node_at seg.node nodes).parent parent) (is_segment nodes seg) p.0 in
      record { segment = q.1; child = q.0; texts = texts }

  goes_on : (parent : Option ℕ) (seg : Seg) (rest : List Seg) (value : Value) → goes_to_row nodes parent (seg ∷ rest) value ≡ true → GoesOn nodes (Some seg.node) rest value
  goes_on parent seg [] value goes = tt
  goes_on parent seg (after ∷ segs) value goes =
      (and_parts (same_number (node_at seg.node nodes).parent parent && is_segment nodes seg) (goes_to_row nodes (Some seg.node) (after ∷ segs) value) goes).1

  own_more : (parent : Option ℕ) (seg : Seg) (rest : List Seg) (value : Value) (own : Option Value) → goes_to_row nodes parent (seg ∷ rest) value ≡ true → has_value_text value ≡ true → OwnFits (node_at seg.node nodes) own
      → OwnFits (node_at seg.node nodes) (own_of rest value own)
  own_more parent seg [] value own goes u fits = (end_kind nodes seg value (and_parts (same_number (node_at seg.node nodes).parent parent) (may_end nodes seg value) goes).1, u)
  own_more parent seg (after ∷ segs) value own goes u fits = fits

  rest_before : (seg first : Seg) (rest : List Seg) (kids : Forest) → eq_by_cmp segment_cmp seg first ≡ true → (segment_cmp seg first ≡ Less) ⊎ ((segment_cmp seg first ≡ Equal) × Before rest kids) → Before rest kids
  rest_before seg first rest kids is before =
      ⊎_elim (λ less. absurd (true≢false (sym is ∙ ap is_eq less))) (λ same. same.1) before

  first_less : (seg first : Seg) (rest : List Seg) (kids : Forest) → eq_by_cmp segment_cmp seg first ≡ false → (segment_cmp seg first ≡ Less) ⊎ ((segment_cmp seg first ≡ Equal) × Before rest kids) → segment_cmp seg first ≡ Less
  first_less seg first rest kids isnt before =
      ⊎_elim (λ less. less) (λ same. absurd (true≢false (sym (ap is_eq same.0) ∙ isnt))) before

  lay_new : (seg : Seg) (rest : List Seg) (parent : Option ℕ) (value : Value) (next : Forest) → goes_to_row nodes parent (seg ∷ rest) value ≡ true → has_texts (seg ∷ rest) ≡ true → has_value_text value ≡ true → StartsLater seg next → Grows parent next
      → Grows (Some seg.node) (laid rest value bare) → Grows parent (branch seg (own_of rest value None) (laid rest value bare) next)
  lay_new seg rest parent value next goes texts u later grows kids =
      (goes_first parent seg rest value goes (and_parts (are_texts seg.keys) (has_texts rest) texts).0, (own_more parent seg rest value None goes u tt, (kids, (later, grows))))

  lay_at : (t : Bool) (seg : Seg) (rest : List Seg) (parent : Option ℕ) (value : Value) (first : Seg) (own : Option Value) (kids next : Forest) → eq_by_cmp segment_cmp seg first ≡ t
      → goes_to_row nodes parent (seg ∷ rest) value ≡ true → has_texts (seg ∷ rest) ≡ true → has_value_text value ≡ true → Grows parent (branch first own kids next)
      → (segment_cmp seg first ≡ Less) ⊎ ((segment_cmp seg first ≡ Equal) × Before rest kids)
      → Grows (Some seg.node) (laid rest value bare) → (Grows (Some seg.node) kids → Before rest kids → Grows (Some seg.node) (laid rest value kids))
      → Grows parent (cond t (branch first (own_of rest value own) (laid rest value kids) next) (branch seg (own_of rest value None) (laid rest value bare) (branch first own kids next)))
  lay_at true seg rest parent value first own kids next is goes texts u grows before new more =
      let same : seg ≡ first = (segments_decide seg first).0 is in (
        grows.0,
        (
          subst (λ (s : Seg). OwnFits (node_at s.node nodes) own → OwnFits (node_at s.node nodes) (own_of rest value own)) same (own_more parent seg rest value own goes u) grows.1.0,
          (
            subst (λ (s : Seg). Grows (Some s.node) kids → Before rest kids → Grows (Some s.node) (laid rest value kids)) same more grows.1.1.0 (rest_before seg first rest kids is before),
            (grows.1.1.1.0, grows.1.1.1.1),
          ),
        ),
      )
  lay_at false seg rest parent value first own kids next is goes texts u grows before new more =
      lay_new seg rest parent value (branch first own kids next) goes texts u (first_less seg first rest kids is before) grows new

  lay : (rest : List Seg) (parent : Option ℕ) (value : Value) (f : Forest) → GoesOn nodes parent rest value → has_texts rest ≡ true → has_value_text value ≡ true → Grows parent f → Before rest f → Grows parent (laid rest value f)
  lay [] parent value f goes texts u grows before = grows
  lay (seg ∷ rest) parent value bare goes texts u grows before =
      lay_new seg rest parent value bare goes texts u tt tt
      (lay rest (Some seg.node) value bare (goes_on parent seg rest value goes) (and_parts (are_texts seg.keys) (has_texts rest) texts).1 u tt (before_bare rest))
  lay (seg ∷ rest) parent value (branch first own kids next) goes texts u grows before =
      let further = goes_on parent seg rest value goes in
      let parts = and_parts (are_texts seg.keys) (has_texts rest) texts in
      lay_at (eq_by_cmp segment_cmp seg first) seg rest parent value first own kids next refl goes texts u grows before
      (lay rest (Some seg.node) value bare further parts.1 u tt (before_bare rest)) (λ below before_kids. lay rest (Some seg.node) value kids further parts.1 u below before_kids)

  step_before : (seg two : Seg) (rest after : List Seg) (value : Value) (kids : Forest) → path_cmp (seg ∷ rest) (two ∷ after) ≡ Less → (path_cmp rest after ≡ Less → Before rest (laid after value kids))
      → (segment_cmp seg two ≡ Less) ⊎ ((segment_cmp seg two ≡ Equal) × Before rest (laid after value kids))
  step_before seg two rest after value kids h further =
      elim (segment_cmp seg two) as (λ o. segment_cmp seg two ≡ o → ordering_then o (path_cmp rest after) ≡ Less → (segment_cmp seg two ≡ Less) ⊎ ((segment_cmp seg two ≡ Equal) × Before rest (laid after value kids))) [
        | Less ↦ λ is less. inl is
        | Equal ↦ λ is less. inr (is, further less)
        | Greater ↦ λ is less. absurd (greater_is_not less)
      ] refl h

  -- a path before another is before a forest in which this one is laid first
  precede_at : (t : Bool) (seg two : Seg) (rest after : List Seg) (value : Value) (first : Seg) (own : Option Value) (kids next : Forest) → eq_by_cmp segment_cmp two first ≡ t → path_cmp (seg ∷ rest) (two ∷ after) ≡ Less
      → ((f : Forest) → path_cmp rest after ≡ Less → Before rest (laid after value f))
      → Before (seg ∷ rest) (cond t (branch first (own_of after value own) (laid after value kids) next) (branch two (own_of after value None) (laid after value bare) (branch first own kids next)))
  precede_at true seg two rest after value first own kids next is h further =
      let same : two ≡ first = (segments_decide two first).0 is in
      subst (λ (s : Seg). (segment_cmp seg s ≡ Less) ⊎ ((segment_cmp seg s ≡ Equal) × Before rest (laid after value kids))) same (step_before seg two rest after value kids h (further kids))
  precede_at false seg two rest after value first own kids next is h further = step_before seg two rest after value bare h (further bare)

  -- a path before another is before a forest in which this one is laid first
  precede : (one two : List Seg) (value : Value) (f : Forest) → path_cmp one two ≡ Less → Before one (laid two value f)
  precede [] two value f h = tt
  precede (seg ∷ rest) [] value f h = absurd (greater_is_not h)
  precede (seg ∷ rest) (two ∷ after) value bare h = step_before seg two rest after value bare h (precede rest after value bare)
  precede (seg ∷ rest) (two ∷ after) value (branch first own kids next) h =
      precede_at (eq_by_cmp segment_cmp two first) seg two rest after value first own kids next refl h (λ f less. precede rest after value f less)

  -- ---- rows at or below a place

  drop_at : (at rest : List Seg) → drop (length at) (at ++ rest) ≡ rest
  drop_at [] rest = refl
  drop_at (seg ∷ at) rest = drop_at at rest

  cmp_at : (at one two : List Seg) → path_cmp (at ++ one) (at ++ two) ≡ path_cmp one two
  cmp_at [] one two = refl
  cmp_at (seg ∷ at) one two = ap (λ o. ordering_then o (path_cmp (at ++ one) (at ++ two))) (tied_itself segments_total seg) ∙ cmp_at at one two

  goes_at : (parent : Option ℕ) (at rest : List Seg) (value : Value) → GoesOn nodes parent (at ++ rest) value → GoesOn nodes (node_after parent at) rest value
  goes_at parent [] rest value h = h
  goes_at parent (seg ∷ at) rest value h = goes_at (Some seg.node) at rest value (goes_on parent seg (at ++ rest) value h)

  texts_at : (at rest : List Seg) → has_texts (at ++ rest) ≡ true → has_texts rest ≡ true
  texts_at [] rest h = h
  texts_at (seg ∷ at) rest h = texts_at at rest (and_parts (are_texts seg.keys) (has_texts (at ++ rest)) h).1

  some_goes : (path : List Seg) (value : Value) → goes_to_row nodes None path value ≡ true → GoesOn nodes None path value
  some_goes [] value h = tt
  some_goes (seg ∷ path) value h = h

  row_under : (at : List Seg) (row : Row) → IsRowOf nodes row → is_within at row.path ≡ true → has_texts row.path ≡ true → has_value_text row.value ≡ true → Under nodes at row
  row_under at row of within texts u =
      let found = within_rest at row.path within in
      record {
        rest = found.0;
        path = found.1;
        goes = goes_at None at found.0 row.value (subst (λ (p : List Seg). GoesOn nodes None p row.value) found.1 (some_goes row.path row.value of.goes));
        texts = texts_at at found.0 (sym (ap has_texts found.1) ∙ texts);
        value = u;
      }

  all_under : (at : List Seg) (rows : List Row) → AllByRecursion (IsRowOf nodes) rows → AllByRecursion (λ row. is_within at row.path ≡ true) rows → HaveTexts rows → AllByRecursion (Under nodes at) rows
  all_under at [] of within texts = tt
  all_under at (row ∷ rows) of within texts = (row_under at row of.0 within.0 texts.0.0 texts.0.1, all_under at rows of.1 within.1 texts.1)

  rows_before : (at rest : List Seg) (rows : List Row) → AllByRecursion (Under nodes at) rows → AllPast (at ++ rest) rows → Before rest (forest_at (length at) rows)
  rows_before at rest [] each past = before_bare rest
  rows_before at rest (row ∷ rows) each past =
      let less : path_cmp rest each.0.rest ≡ Less = sym (cmp_at at rest each.0.rest) ∙ ap (path_cmp (at ++ rest)) (sym each.0.path) ∙ past.0 in
      subst (λ (p : List Seg). Before rest (laid p row.value (forest_at (length at) rows))) (sym (ap (drop (length at)) each.0.path ∙ drop_at at each.0.rest))
      (precede rest each.0.rest row.value (forest_at (length at) rows) less)

  rows_grow : (at : List Seg) (rows : List Row) → AreInOrder rows → AllByRecursion (Under nodes at) rows → Grows (node_after None at) (forest_at (length at) rows)
  rows_grow at [] order each = tt
  rows_grow at (row ∷ rows) order each =
      let before = rows_before at each.0.rest rows each.1 (subst (λ (p : List Seg). AllPast p rows) each.0.path (first_order row rows order)) in
      subst (λ (p : List Seg). Grows (node_after None at) (laid p row.value (forest_at (length at) rows))) (sym (ap (drop (length at)) each.0.path ∙ drop_at at each.0.rest))
      (lay each.0.rest (node_after None at) row.value (forest_at (length at) rows) each.0.goes each.0.texts each.0.value (rows_grow at rows (rest_order row rows order) each.1) before)

  below_readable : (at : List Seg) (rows : List Row) → AreWritable nodes at rows → HaveTexts rows → MembersAreReadable (members_in nodes (forest_at (length at) rows))
  below_readable at rows writable texts =
      grown_readable (node_after None at) (forest_at (length at) rows) (rows_grow at rows writable.in_order (all_under at rows writable.of_schema writable.within texts))

  -- ---- the rows at a place

  named_readable : (seg : Seg) (rest : List Seg) (rows : List Row) → AreWritable nodes (seg ∷ rest) rows → has_texts (seg ∷ rest) ≡ true → HaveTexts rows → IsReadable (rows_json nodes (seg ∷ rest) rows)
  named_readable seg rest rows writable keys texts =
      let last = last_segment seg rest in
      let node = node_at last.node nodes in
      let is = place_last seg rest writable.place in
      let low = segment_within nodes last is in
      let below = below_readable (seg ∷ rest) rows writable texts in
      let stands = schema.each last.node low in
      let home = identifier_utf8 node.home (and_parts (is_identifier node.home) (nat_le (length node.home) 64) stands.module_name).0 in
      let name = identifier_utf8 node.name (and_parts (is_identifier node.name) (nat_le (length node.name) 64) stands.node_name).0 in
      let item_at = item_readable last (members_in nodes (forest_at (length (seg ∷ rest)) rows)) is (last_texts seg rest keys) below in (
        qualified_utf8 node home name,
        (
          tt,
          (
            (elim node.kind as (λ (k : Kind). node.kind ≡ k → IsReadable (place_data nodes k node last (value_at (seg ∷ rest) rows) (members_in nodes (forest_at (length (seg ∷ rest)) rows)))) [
              | Container ↦ λ e. below
              | Presence ↦ λ e. below
              | Listing ↦ λ e. (item_at Listing e, tt)
              | Leaf ↦ λ e. own_readable node (value_at (seg ∷ rest) rows) (has_type last.node low) e (value_fits_at seg rest rows writable.of_schema texts)
              | LeafList ↦ λ e. (item_at LeafList e, tt)
            ] refl),
            tt,
          ),
        ),
      )
    where
      snoc_is : (s : Seg) (path : List Seg) → above_last s path ++ last_segment s path ∷ [] ≡ s ∷ path
      snoc_is s [] = refl
      snoc_is s (after ∷ path) = ap (λ (p : List Seg). s ∷ p) (snoc_is after path)

      place_last : (s : Seg) (path : List Seg) → is_place nodes (s ∷ path) ≡ true → is_segment nodes (last_segment s path) ≡ true
      place_last s path place =
          let goes = path_down nodes (s ∷ path) (and_parts (is_path_of nodes (s ∷ path)) (not (ends_in_key nodes (s ∷ path))) place).0 in
          last_is_segment nodes None (above_last s path) (last_segment s path) (subst (λ (p : List Seg). goes_down nodes None p ≡ true) (sym (snoc_is s path)) goes)

      last_texts : (s : Seg) (path : List Seg) → has_texts (s ∷ path) ≡ true → are_texts (last_segment s path).keys ≡ true
      last_texts s [] h = (and_parts (are_texts s.keys) true h).0
      last_texts s (after ∷ path) h = last_texts after path (and_parts (are_texts s.keys) (has_texts (after ∷ path)) h).1

      value_at_row : (t : Bool) (s : Seg) (path : List Seg) (row : Row) (o : Option Value) → is_eq (path_cmp (s ∷ path) row.path) ≡ t → IsRowOf nodes row → has_value_text row.value ≡ true
          → OwnFits (node_at (last_segment s path).node nodes) o → OwnFits (node_at (last_segment s path).node nodes) (cond t (Some row.value) o)
      value_at_row true s path row o same of u fits =
          let one : row.path ≡ above_last s path ++ last_segment s path ∷ [] = sym (are_one (s ∷ path) row.path same) ∙ sym (snoc_is s path) in
          (end_kind nodes (last_segment s path) row.value (row_ends nodes None (above_last s path) (last_segment s path) row.value (subst (λ (p : List Seg). goes_to_row nodes None p row.value ≡ true) one of.goes)), u)
      value_at_row false s path row o same of u fits = fits

      value_fits_at : (s : Seg) (path : List Seg) (rs : List Row) → AllByRecursion (IsRowOf nodes) rs → HaveTexts rs → OwnFits (node_at (last_segment s path).node nodes) (value_at (s ∷ path) rs)
      value_fits_at s path [] of have = tt
      value_fits_at s path (row ∷ rs) of have = value_at_row (is_eq (path_cmp (s ∷ path) row.path)) s path row (value_at (s ∷ path) rs) refl of.0 have.0.1 (value_fits_at s path rs of.1 have.1)

  -- what is written of rows is readable
  pub rows_readable : (at : List Seg) (rows : List Row) → AreWritable nodes at rows → has_texts at ≡ true → HaveTexts rows → IsReadable (rows_json nodes at rows)
  rows_readable [] rows writable keys texts = below_readable [] rows writable texts
  rows_readable (seg ∷ rest) rows writable keys texts = named_readable seg rest rows writable keys texts
