-- What is written of a forest is read again as its rows.
use Rattle.std.proofs.Common.{◌≡◌, ℕ, ◌<◌, List, [], ◌∷◌, ◌++◌, length, map, Bool, true, false, Option, Some, None, is_some, refl, sym, ap, ◌∙◌, subst, Ok, Err, Result, cond, append_assoc, append-nil, true≢false, Ordering, Less, Equal, Greater, nat_cmp}
use Rattle.std.specs.Cmp.Lexicographic.{slice_cmp}
use Rattle.std.specs.Prelude.{nat_eq}
use Rattle.std.specs.Ordering.{match_ordering, is_eq}
use Rattle.std.specs.List.{AllByRecursion}
use Rattle.std.proofs.lemmas.Bool.{and_parts, eqb-true}
use Rattle.std.proofs.lemmas.Map.Text.{is_eq-slice_cmp}
use Rattle.std.proofs.lemmas.Slice.Eq.{bytes_eq-Decides}
use Rattle.yp_base.specs.declared.path.Seg.{Seg}
use Rattle.yp_base.specs.declared.row.Value.{Value}
use Rattle.yp_base.specs.declared.row.Value.TheVariants.{Atom as Plain, Member, Empty, Present}
use Rattle.yp_base.specs.declared.row.Row.{Row}
use Rattle.yp_base.specs.declared.atom.Atom.{Atom}
use Rattle.yp_base.specs.declared.atom.Atom.TheVariants.{Bool as Truth, Int, Uint, Dec, Text}
use Rattle.yp_base.specs.declared.leaf_type.LeafType.{LeafType}
use Rattle.yp_base.specs.Types.{is_type}
use Rattle.yp_value.specs.Texts.{atom_text}
use Rattle.yp_value.specs.Json.{value_data, has_string_numbers}
use Rattle.yp_base.specs.Rows.{put_row, value_at, AreInOrder}
use Rattle.yp_value.specs.JsonLaws.{json_again}
use Rattle.yp_schema.specs.Nodes.{node_at, child_of, is_key}
use Rattle.yp_schema.specs.WellFormed.{IsSchema}
use Rattle.yp_schema.specs.Datastore.{atom_fits, keys_fit, typed_fits}
use Rattle.yp_schema.specs.declared.schema.SchemaNode.{SchemaNode}
use Rattle.yp_schema.specs.declared.schema.Kind.{Kind}
use Rattle.yp_schema.specs.declared.schema.Kind.TheVariants.{Container, Presence, List as Listing, Leaf, LeafList}
use Rattle.serde_json.specs.Data.{Num, unsigned, Data, number, string, array, object, Items, no_items, item, Members, no_members, member, put}
use Rattle.serde_json.specs.Find.{get_member, of_integer}
use Rattle.serde_json.proofs.Views.{get_member-put, get_member-put_other}
use Rattle.yp_data_json.specs.declared.fault.DataFault.{DataFault}
use Rattle.yp_data_json.specs.declared.fault.DataFault.TheVariants.{UnknownElement}
use Rattle.yp_schema.specs.Values.{typed_value, typed_atom}
use Rattle.yp_schema.specs.SchemaLaws.{type_is, plain_fits}
use Rattle.yp_base.specs.Results.{◌>>=◌}
use Rattle.yp_data_json.specs.Reading.{valid, key_in, at_key, with_key, keys_found, fault_alone, keys_in, below, row_at, leaf_read, entered, value_read, leaf_list_read, for_child, members_read, node_read, entries_read, entry_read}
use Rattle.yp_data_json.specs.Forest.{Forest, bare, branch}
use Rattle.serde_json.specs.View.{items_of}
use Rattle.yp_data_json.specs.Writing.{leaf_data, key_data, one_key_data, with_keys, Entry, Gathered, no_nodes, single, entries, entry_in_front, branch_in_front, members_of, gathered, members_in}
use Rattle.yp_data_json.proofs.Readings.{valid_atom}
use Rattle.yp_base.specs.RowLaws.{put_last_row, not_there_yet}
use Rattle.yp_data_json.proofs.RowsIn.{rows_in, front_cmp}
use Rattle.yp_data_json.proofs.Fits.{BranchFits, Fits, KeysStand, keys_stand}

-- one step after another
then_assoc : {A B C : Type 0} (r : Result A DataFault) (f : A → Result B DataFault) (g : B → Result C DataFault) → ((r >>= f) >>= g) ≡ (r >>= λ x. f x >>= g)
then_assoc (Ok x) f g = refl
then_assoc (Err e) f g = refl

then_ok : {A : Type 0} (r : Result A DataFault) → (r >>= λ x. Ok x) ≡ r
then_ok (Ok x) = refl
then_ok (Err e) = refl

then_same : {A B : Type 0} (r : Result A DataFault) (f g : A → Result B DataFault) → ((x : A) → f x ≡ g x) → (r >>= f) ≡ (r >>= g)
then_same (Ok x) f g h = h x
then_same (Err e) f g h = refl

abbrev Reading : Type 0
Reading = Result (List Row) DataFault

-- ---- values and keys

value_again_at : (o : Option LeafType) (v : Value) → ((ty : LeafType) → o ≡ Some ty → is_type ty ≡ true) → typed_fits o v ≡ true → valid (typed_value o (leaf_data o (Some v))) ≡ Ok v
value_again_at None v typed h = absurd (true≢false (sym h))
value_again_at (Some ty) v typed h = ap valid (json_again ty v (typed ty refl) h)

pub value_again : (nodes : List SchemaNode) → IsSchema nodes → (n : ℕ) (v : Value) → n < length nodes → typed_fits (node_at n nodes).ty v ≡ true → valid (typed_value (node_at n nodes).ty (leaf_data (node_at n nodes).ty (Some v))) ≡ Ok v
value_again nodes schema n v within h = value_again_at (node_at n nodes).ty v (λ ty e. type_is nodes n ty schema within e) h

pub atom_again : (nodes : List SchemaNode) → IsSchema nodes → (n : ℕ) (a : Atom) → n < length nodes → atom_fits (node_at n nodes).ty a ≡ true → valid (typed_atom (node_at n nodes).ty (key_data (node_at n nodes).ty a)) ≡ Ok a
atom_again nodes schema n a within h =
    valid_atom (node_at n nodes).ty (key_data (node_at n nodes).ty a) a (value_again nodes schema n (Plain a) within (plain_fits (node_at n nodes).ty a h))

-- keys of other names don't touch a member
get_past : (nodes : List SchemaNode) (name : List ℕ) (ks : List ℕ) (keys : List Atom) (ms : Members) → AllByRecursion (λ j. (node_at j nodes).member ≡ name → ⊥) ks → get_member name (with_keys nodes ks keys ms) ≡ get_member name ms
get_past nodes name [] keys ms h = refl
get_past nodes name (k ∷ ks) [] ms h = refl
get_past nodes name (k ∷ ks) (key ∷ keys) ms h =
    get_past nodes name ks keys (put (node_at k nodes).member (key_data (node_at k nodes).ty key) ms) h.1
    ∙ get_member-put_other name (node_at k nodes).member (key_data (node_at k nodes).ty key) ms (λ e. h.0 (sym e))

found_again : (nodes : List SchemaNode) → IsSchema nodes → (n : ℕ) (ks : List ℕ) (keys : List Atom) (ms : Members) → KeysStand nodes n ks → keys_fit nodes ks keys ≡ true → keys_found nodes ks (with_keys nodes ks keys ms) ≡ Ok keys
found_again nodes schema n [] [] ms s h = refl
found_again nodes schema n [] (a ∷ keys) ms s h = absurd (true≢false (sym h))
found_again nodes schema n (k ∷ ks) [] ms s h = absurd (true≢false (sym h))
found_again nodes schema n (k ∷ ks) (a ∷ keys) ms s h =
    let name = (node_at k nodes).member in
    let d = key_data (node_at k nodes).ty a in
    let fits = and_parts (atom_fits (node_at k nodes).ty a) (keys_fit nodes ks keys) h in
    let here : get_member name (with_keys nodes ks keys (put name d ms)) ≡ Some d = get_past nodes name ks keys (put name d ms) s.3 ∙ get_member-put name d ms in
    let first : key_in (node_at k nodes).ty (get_member name (with_keys nodes ks keys (put name d ms))) ≡ Ok a = ap (key_in (node_at k nodes).ty) here ∙ atom_again nodes schema k a s.2 fits.0 in
    ap (λ (r : Result Atom DataFault). with_key nodes (at_key k r) (keys_found nodes ks (with_keys nodes ks keys (put name d ms)))) first
    ∙ ap (with_key nodes (Ok a)) (found_again nodes schema n ks keys (put name d ms) s.4 fits.1)

pub keys_again : (nodes : List SchemaNode) → IsSchema nodes → (n : ℕ) (ks : List ℕ) (keys : List Atom) (ms : Members) → KeysStand nodes n ks → keys_fit nodes ks keys ≡ true → keys_in nodes ks (with_keys nodes ks keys ms) ≡ Ok keys
keys_again nodes schema n ks keys ms s h = ap fault_alone (found_again nodes schema n ks keys ms s h)

-- ---- members that are keys are passed over

skip_at : (o : Ordering) (nodes : List SchemaNode) (n k : ℕ) (path : List Seg) (name l : List ℕ) (d e : Data) (ms more : Members) (acc : List Row)
    → slice_cmp nat_cmp name l ≡ o
    → child_of (Some n) name nodes ≡ Some k → is_key k (Some n) nodes ≡ true
    → ((a : List Row) → members_read nodes (Some n) path more a ≡ members_read nodes (Some n) path ms a)
    → members_read nodes (Some n) path (match_ordering o (member name d (member l e ms)) (member l d ms) (member l e more)) acc ≡ members_read nodes (Some n) path (member l e ms) acc
skip_at Less nodes n k path name l d e ms more acc is found key later = rw (found, key) refl
skip_at Equal nodes n k path name l d e ms more acc is found key later =
    let same : name ≡ l = (bytes_eq-Decides name l).0 (sym (is_eq-slice_cmp name l) ∙ ap is_eq is) in
    let there : child_of (Some n) l nodes ≡ Some k = subst (λ x. child_of (Some n) x nodes ≡ Some k) same found in
    rw (there, key) refl
skip_at Greater nodes n k path name l d e ms more acc is found key later =
    then_same (for_child (child_of (Some n) l nodes) (Err UnknownElement) (λ m. cond (is_key m (Some n) nodes) (Ok acc) (node_read nodes m path e acc))) _ _ later

pub skip : (nodes : List SchemaNode) (n k : ℕ) (path : List Seg) (name : List ℕ) (d : Data) (ms : Members) (acc : List Row)
    → child_of (Some n) name nodes ≡ Some k → is_key k (Some n) nodes ≡ true
    → members_read nodes (Some n) path (put name d ms) acc ≡ members_read nodes (Some n) path ms acc
skip nodes n k path name d no_members acc found key = rw (found, key) refl
skip nodes n k path name d (member l e ms) acc found key =
    skip_at (slice_cmp nat_cmp name l) nodes n k path name l d e ms (put name d ms) acc refl found key (λ a. skip nodes n k path name d ms a found key)

pub skip_keys : (nodes : List SchemaNode) (n : ℕ) (path : List Seg) (ks : List ℕ) (keys : List Atom) (ms : Members) (acc : List Row) → KeysStand nodes n ks
    → members_read nodes (Some n) path (with_keys nodes ks keys ms) acc ≡ members_read nodes (Some n) path ms acc
skip_keys nodes n path [] keys ms acc s = refl
skip_keys nodes n path (k ∷ ks) [] ms acc s = refl
skip_keys nodes n path (k ∷ ks) (a ∷ keys) ms acc s =
    skip_keys nodes n path ks keys (put (node_at k nodes).member (key_data (node_at k nodes).ty a) ms) acc s.4 ∙ skip nodes n k path (node_at k nodes).member (key_data (node_at k nodes).ty a) ms acc s.0 s.1

-- ---- one member, one item

-- a member that is a child and no key
one_member : (nodes : List SchemaNode) (parent : Option ℕ) (n : ℕ) (path : List Seg) (name : List ℕ) (d : Data) (ms : Members) (acc : List Row)
    → child_of parent name nodes ≡ Some n → is_key n parent nodes ≡ false
    → members_read nodes parent path (member name d ms) acc ≡ (node_read nodes n path d acc >>= λ a. members_read nodes parent path ms a)
one_member nodes parent n path name d ms acc found key = rw (found, key) refl

-- items of an array are read one after another
module _ (nodes : List SchemaNode) (parent : Option ℕ) (n : ℕ) (path : List Seg) (read : Data → List Row → Reading) (reads : Items → List Row → Reading)
    (is_reads : (ds : Items) (acc : List Row) → node_read nodes n path (array ds) acc ≡ reads ds acc)
    (none : (acc : List Row) → reads no_items acc ≡ Ok acc)
    (one : (d : Data) (ds : Items) (acc : List Row) → reads (item d ds) acc ≡ (read d acc >>= λ a. reads ds a)) where
  list_member : (name : List ℕ) (ds : Items) (ms : Members) (acc : List Row) → child_of parent name nodes ≡ Some n → is_key n parent nodes ≡ false
      → members_read nodes parent path (member name (array ds) ms) acc ≡ (reads ds acc >>= λ a. members_read nodes parent path ms a)
  list_member name ds ms acc found key = one_member nodes parent n path name (array ds) ms acc found key ∙ ap (λ (r : Reading). r >>= λ a. members_read nodes parent path ms a) (is_reads ds acc)

  old_list : (name : List ℕ) (d : Data) (ds : Items) (ms : Members) (acc : List Row) → child_of parent name nodes ≡ Some n → is_key n parent nodes ≡ false
      → members_read nodes parent path (member name (array (item d ds)) ms) acc ≡ (read d acc >>= λ a. members_read nodes parent path (member name (array ds) ms) a)
  old_list name d ds ms acc found key =
      list_member name (item d ds) ms acc found key
      ∙ ap (λ (r : Reading). r >>= λ a. members_read nodes parent path ms a) (one d ds acc)
      ∙ then_assoc (read d acc) (λ a. reads ds a) (λ a. members_read nodes parent path ms a)
      ∙ then_same (read d acc) _ _ (λ a. sym (list_member name ds ms a found key))

  new_list : (name : List ℕ) (d : Data) (ms : Members) (acc : List Row) → child_of parent name nodes ≡ Some n → is_key n parent nodes ≡ false
      → members_read nodes parent path (member name (array (item d no_items)) ms) acc ≡ (read d acc >>= λ a. members_read nodes parent path ms a)
  new_list name d ms acc found key =
      list_member name (item d no_items) ms acc found key
      ∙ ap (λ (r : Reading). r >>= λ a. members_read nodes parent path ms a) (one d no_items acc ∙ then_same (read d acc) (λ a. reads no_items a) (λ a. Ok a) none ∙ then_ok (read d acc))

  which_list : (b : Bool) (m : ℕ) (e : Entry) (each : List Entry) (g : Gathered) (acc : List Row) → nat_eq n m ≡ b
      → child_of parent (node_at n nodes).member nodes ≡ Some n → is_key n parent nodes ≡ false
      → members_read nodes parent path (members_of nodes (cond b (entries m (e ∷ each) g) (entries n (e ∷ []) (entries m each g)))) acc
      ≡ (read e.json acc >>= λ a. members_read nodes parent path (members_of nodes (entries m each g)) a)
  which_list true m e each g acc is found key =
      old_list (node_at m nodes).member e.json (items_of (map (λ x. x.json) each)) (members_of nodes g) acc (subst (λ k. child_of parent (node_at k nodes).member nodes ≡ Some n) (eqb-true n m is) found) key
  which_list false m e each g acc is found key = new_list (node_at n nodes).member e.json (members_of nodes (entries m each g)) acc found key

  -- an entry in front is read first
  item_first : (e : Entry) (g : Gathered) (acc : List Row) → child_of parent (node_at n nodes).member nodes ≡ Some n → is_key n parent nodes ≡ false
      → members_read nodes parent path (members_of nodes (entry_in_front n e g)) acc ≡ (read e.json acc >>= λ a. members_read nodes parent path (members_of nodes g) a)
  item_first e no_nodes acc found key = new_list (node_at n nodes).member e.json no_members acc found key
  item_first e (single m d g) acc found key = new_list (node_at n nodes).member e.json (members_of nodes (single m d g)) acc found key
  item_first e (entries m each g) acc found key = which_list (nat_eq n m) m e each g acc refl found key

entry_first : (nodes : List SchemaNode) (parent : Option ℕ) (n : ℕ) (path : List Seg) (e : Entry) (g : Gathered) (acc : List Row)
    → child_of parent (node_at n nodes).member nodes ≡ Some n → is_key n parent nodes ≡ false → (node_at n nodes).kind ≡ Listing
    → members_read nodes parent path (members_of nodes (entry_in_front n e g)) acc ≡ (entry_read nodes n path e.json acc >>= λ a. members_read nodes parent path (members_of nodes g) a)
entry_first nodes parent n path e g acc found key kind =
    item_first nodes parent n path (entry_read nodes n path) (entries_read nodes n path) (λ ds rows. rw kind refl) (λ rows. refl) (λ d ds rows. refl) e g acc found key

value_first : (nodes : List SchemaNode) (parent : Option ℕ) (n : ℕ) (path : List Seg) (e : Entry) (g : Gathered) (acc : List Row)
    → child_of parent (node_at n nodes).member nodes ≡ Some n → is_key n parent nodes ≡ false → (node_at n nodes).kind ≡ LeafList
    → members_read nodes parent path (members_of nodes (entry_in_front n e g)) acc ≡ (value_read nodes n path e.json acc >>= λ a. members_read nodes parent path (members_of nodes g) a)
value_first nodes parent n path e g acc found key kind =
    item_first nodes parent n path (value_read nodes n path) (leaf_list_read nodes n path) (λ ds rows. rw kind refl) (λ rows. refl) (λ d ds rows. refl) e g acc found key

-- ---- leaves

number_node : (b : Bool) (nodes : List SchemaNode) (n : ℕ) (path : List Seg) (text : List ℕ) (x : Num) (acc : List Row) → (node_at n nodes).kind ≡ Leaf
    → node_read nodes n path (cond b (string text) (number x)) acc ≡ leaf_read nodes n path (cond b (string text) (number x)) acc
number_node true nodes n path text x acc kind = rw kind refl
number_node false nodes n path text x acc kind = rw kind refl

value_node : (ty : LeafType) (nodes : List SchemaNode) (n : ℕ) (path : List Seg) (v : Value) (acc : List Row) → (node_at n nodes).kind ≡ Leaf → node_read nodes n path (value_data ty v) acc ≡ leaf_read nodes n path (value_data ty v) acc
value_node ty nodes n path (Plain (Truth b)) acc kind = rw kind refl
value_node ty nodes n path (Plain (Int i)) acc kind = number_node (has_string_numbers ty) nodes n path (atom_text (Int i)) (of_integer i) acc kind
value_node ty nodes n path (Plain (Uint u)) acc kind = number_node (has_string_numbers ty) nodes n path (atom_text (Uint u)) (unsigned u) acc kind
value_node ty nodes n path (Plain (Dec places units)) acc kind = rw kind refl
value_node ty nodes n path (Plain (Text s)) acc kind = rw kind refl
value_node ty nodes n path Member acc kind = rw kind refl
value_node ty nodes n path Empty acc kind = rw kind refl
value_node ty nodes n path Present acc kind = rw kind refl

pub leaf_node : (o : Option LeafType) (nodes : List SchemaNode) (n : ℕ) (path : List Seg) (v : Value) (acc : List Row) → (node_at n nodes).kind ≡ Leaf
    → node_read nodes n path (leaf_data o (Some v)) acc ≡ leaf_read nodes n path (leaf_data o (Some v)) acc
leaf_node None nodes n path v acc kind = rw kind refl
leaf_node (Some ty) nodes n path v acc kind = value_node ty nodes n path v acc kind

-- ---- branches

regroup : (acc own kids next : List Row) → ((acc ++ own) ++ kids) ++ next ≡ acc ++ ((own ++ kids) ++ next)
regroup acc own kids next = ap (λ xs. xs ++ next) (append_assoc acc own kids) ∙ append_assoc acc (own ++ kids) next

pub path_is : (path : List Seg) (seg : Seg) → seg.keys ≡ [] → below path seg.node [] ≡ path ++ seg ∷ []
path_is path seg e = ap (λ ks. below path seg.node ks) (sym e)

-- what reading a branch's JSON and then the next's gives, where the branch's own row and those below it are read
then_next : (nodes : List SchemaNode) (parent : Option ℕ) (path : List Seg) (next : Members) (acc own kids rows : List Row) (step : Reading) (all : Reading)
    → all ≡ (step >>= λ a. members_read nodes parent path next a)
    → step ≡ Ok ((acc ++ own) ++ kids)
    → ((a : List Row) → AreInOrder (a ++ rows) → members_read nodes parent path next a ≡ Ok (a ++ rows))
    → AreInOrder (acc ++ ((own ++ kids) ++ rows))
    → all ≡ Ok (acc ++ ((own ++ kids) ++ rows))
then_next nodes parent path next acc own kids rows step all is done later order =
    is ∙ ap (λ (r : Reading). r >>= λ a. members_read nodes parent path next a) done
    ∙ later ((acc ++ own) ++ kids) (subst AreInOrder (sym (regroup acc own kids rows)) order)
    ∙ ap (λ xs. Ok xs) (regroup acc own kids rows)

fronts : (acc own kids rows : List Row) → AreInOrder (acc ++ ((own ++ kids) ++ rows)) → AreInOrder ((acc ++ own) ++ kids)
fronts acc own kids rows order = front_cmp ((acc ++ own) ++ kids) rows (subst AreInOrder (sym (regroup acc own kids rows)) order)

put_here : (acc kids rows : List Row) (row : Row) → AreInOrder (acc ++ ((row ∷ [] ++ kids) ++ rows)) → put_row row acc ≡ acc ++ row ∷ []
put_here acc kids rows row order = put_last_row acc row [] (front_cmp (acc ++ row ∷ []) kids (fronts acc (row ∷ []) kids rows order))

none_here : (acc kids rows : List Row) (row : Row) → AreInOrder (acc ++ ((row ∷ [] ++ kids) ++ rows)) → value_at row.path acc ≡ None
none_here acc kids rows row order = not_there_yet acc row [] (front_cmp (acc ++ row ∷ []) kids (fronts acc (row ∷ []) kids rows order))

abbrev pub Again : List SchemaNode → Option ℕ → List Seg → Forest → Type 0
Again nodes parent path f = (acc : List Row) → AreInOrder (acc ++ rows_in path f) → members_read nodes parent path (members_in nodes f) acc ≡ Ok (acc ++ rows_in path f)

container_again : (nodes : List SchemaNode) (parent : Option ℕ) (path : List Seg) (seg : Seg) (kids next : Forest) (acc : List Row)
    → (node_at seg.node nodes).kind ≡ Container
    → child_of parent (node_at seg.node nodes).member nodes ≡ Some seg.node → is_key seg.node parent nodes ≡ false → seg.keys ≡ []
    → Again nodes (Some seg.node) (path ++ seg ∷ []) kids → Again nodes parent path next
    → AreInOrder (acc ++ rows_in path (branch seg None kids next))
    → members_read nodes parent path (member (node_at seg.node nodes).member (object (members_in nodes kids)) (members_in nodes next)) acc ≡ Ok (acc ++ rows_in path (branch seg None kids next))
container_again nodes parent path seg kids next acc kind found key bare_keys inner later order =
    then_next nodes parent path (members_in nodes next) acc [] (rows_in (path ++ seg ∷ []) kids) (rows_in path next) (node_read nodes seg.node path (object (members_in nodes kids)) acc) _
    (one_member nodes parent seg.node path (node_at seg.node nodes).member (object (members_in nodes kids)) (members_in nodes next) acc found key)
    (rw kind (ap (λ p. members_read nodes (Some seg.node) p (members_in nodes kids) acc) (path_is path seg bare_keys)
    ∙ inner acc (front_cmp (acc ++ rows_in (path ++ seg ∷ []) kids) (rows_in path next) (subst AreInOrder (sym (append_assoc acc (rows_in (path ++ seg ∷ []) kids) (rows_in path next))) order))
    ∙ ap (λ xs. Ok (xs ++ rows_in (path ++ seg ∷ []) kids)) (sym (append-nil acc))))
    later order

presence_again : (nodes : List SchemaNode) (parent : Option ℕ) (path : List Seg) (seg : Seg) (kids next : Forest) (acc : List Row)
    → (node_at seg.node nodes).kind ≡ Presence
    → child_of parent (node_at seg.node nodes).member nodes ≡ Some seg.node → is_key seg.node parent nodes ≡ false → seg.keys ≡ []
    → Again nodes (Some seg.node) (path ++ seg ∷ []) kids → Again nodes parent path next
    → AreInOrder (acc ++ rows_in path (branch seg (Some Present) kids next))
    → members_read nodes parent path (member (node_at seg.node nodes).member (object (members_in nodes kids)) (members_in nodes next)) acc ≡ Ok (acc ++ rows_in path (branch seg (Some Present) kids next))
presence_again nodes parent path seg kids next acc kind found key bare_keys inner later order =
    let row = row_at (path ++ seg ∷ []) Present in
    let below_rows = rows_in (path ++ seg ∷ []) kids in
    then_next nodes parent path (members_in nodes next) acc (row ∷ []) below_rows (rows_in path next) (node_read nodes seg.node path (object (members_in nodes kids)) acc) _
    (one_member nodes parent seg.node path (node_at seg.node nodes).member (object (members_in nodes kids)) (members_in nodes next) acc found key)
    (rw kind (ap (λ p. members_read nodes (Some seg.node) p (members_in nodes kids) (put_row (row_at p Present) acc)) (path_is path seg bare_keys)
    ∙ ap (λ a. members_read nodes (Some seg.node) (path ++ seg ∷ []) (members_in nodes kids) a) (put_here acc below_rows (rows_in path next) row order)
    ∙ inner (acc ++ row ∷ []) (fronts acc (row ∷ []) below_rows (rows_in path next) order)))
    later order

list_again : (nodes : List SchemaNode) → IsSchema nodes → (parent : Option ℕ) (path : List Seg) (seg : Seg) (kids next : Forest) (acc : List Row)
    → (node_at seg.node nodes).kind ≡ Listing → seg.node < length nodes
    → child_of parent (node_at seg.node nodes).member nodes ≡ Some seg.node → is_key seg.node parent nodes ≡ false → keys_fit nodes (node_at seg.node nodes).keys seg.keys ≡ true
    → Again nodes (Some seg.node) (path ++ seg ∷ []) kids → Again nodes parent path next
    → AreInOrder (acc ++ rows_in path (branch seg (Some Present) kids next))
    → members_read nodes parent path (members_of nodes (entry_in_front seg.node (record { keys = seg.keys; json = object (with_keys nodes (node_at seg.node nodes).keys seg.keys (members_in nodes kids)) }) (gathered nodes next))) acc
    ≡ Ok (acc ++ rows_in path (branch seg (Some Present) kids next))
list_again nodes schema parent path seg kids next acc kind within found key fit inner later order =
    let stand = keys_stand nodes schema seg.node within kind in
    let row = row_at (path ++ seg ∷ []) Present in
    let below_rows = rows_in (path ++ seg ∷ []) kids in
    let ks = (node_at seg.node nodes).keys in
    let entry = with_keys nodes ks seg.keys (members_in nodes kids) in
    then_next nodes parent path (members_in nodes next) acc (row ∷ []) below_rows (rows_in path next) (entry_read nodes seg.node path (object entry) acc) _
    (entry_first nodes parent seg.node path (record { keys = seg.keys; json = object entry }) (gathered nodes next) acc found key kind)
    (rw (keys_again nodes schema seg.node ks seg.keys (members_in nodes kids) stand fit, none_here acc below_rows (rows_in path next) row order, put_here acc below_rows (rows_in path next) row order)
    (skip_keys nodes seg.node (path ++ seg ∷ []) ks seg.keys (members_in nodes kids) (acc ++ row ∷ []) stand
    ∙ inner (acc ++ row ∷ []) (fronts acc (row ∷ []) below_rows (rows_in path next) order)))
    later order

leaf_again : (nodes : List SchemaNode) → IsSchema nodes → (parent : Option ℕ) (path : List Seg) (seg : Seg) (v : Value) (next : Forest) (acc : List Row)
    → (node_at seg.node nodes).kind ≡ Leaf → seg.node < length nodes
    → child_of parent (node_at seg.node nodes).member nodes ≡ Some seg.node → is_key seg.node parent nodes ≡ false → typed_fits (node_at seg.node nodes).ty v ≡ true → seg.keys ≡ []
    → Again nodes parent path next
    → AreInOrder (acc ++ rows_in path (branch seg (Some v) bare next))
    → members_read nodes parent path (member (node_at seg.node nodes).member (leaf_data (node_at seg.node nodes).ty (Some v)) (members_in nodes next)) acc ≡ Ok (acc ++ rows_in path (branch seg (Some v) bare next))
leaf_again nodes schema parent path seg v next acc kind within found key fit bare_keys later order =
    let row = row_at (path ++ seg ∷ []) v in
    let d = leaf_data (node_at seg.node nodes).ty (Some v) in
    then_next nodes parent path (members_in nodes next) acc (row ∷ []) [] (rows_in path next) (node_read nodes seg.node path d acc) _
    (one_member nodes parent seg.node path (node_at seg.node nodes).member d (members_in nodes next) acc found key)
    (leaf_node (node_at seg.node nodes).ty nodes seg.node path v acc kind
    ∙ ap (λ (r : Result Value DataFault). r >>= λ value. Ok (put_row (row_at (below path seg.node []) value) acc)) (value_again nodes schema seg.node v within fit)
    ∙ ap (λ p. Ok (put_row (row_at p v) acc)) (path_is path seg bare_keys)
    ∙ ap (λ xs. Ok xs) (put_here acc [] (rows_in path next) row order ∙ sym (append-nil (acc ++ row ∷ []))))
    later order

pub keys_path : (path : List Seg) (seg : Seg) (a : Atom) → seg.keys ≡ a ∷ [] → below path seg.node (a ∷ []) ≡ path ++ seg ∷ []
keys_path path seg a e = ap (λ ks. below path seg.node ks) (sym e)

value_entry_again : (nodes : List SchemaNode) → IsSchema nodes → (parent : Option ℕ) (path : List Seg) (seg : Seg) (a : Atom) (next : Forest) (acc : List Row)
    → (node_at seg.node nodes).kind ≡ LeafList → seg.node < length nodes
    → child_of parent (node_at seg.node nodes).member nodes ≡ Some seg.node → is_key seg.node parent nodes ≡ false → atom_fits (node_at seg.node nodes).ty a ≡ true → seg.keys ≡ a ∷ []
    → Again nodes parent path next
    → AreInOrder (acc ++ rows_in path (branch seg (Some Member) bare next))
    → members_read nodes parent path (members_of nodes (entry_in_front seg.node (record { keys = seg.keys; json = one_key_data (node_at seg.node nodes).ty seg.keys }) (gathered nodes next))) acc ≡ Ok (acc ++ rows_in path (branch seg (Some Member) bare next))
value_entry_again nodes schema parent path seg a next acc kind within found key fit is_keys later order =
    let row = row_at (path ++ seg ∷ []) Member in
    let d = key_data (node_at seg.node nodes).ty a in
    then_next nodes parent path (members_in nodes next) acc (row ∷ []) [] (rows_in path next) (value_read nodes seg.node path d acc) _
    (ap (λ ks. members_read nodes parent path (members_of nodes (entry_in_front seg.node (record { keys = seg.keys; json = one_key_data (node_at seg.node nodes).ty ks }) (gathered nodes next))) acc) is_keys
    ∙ value_first nodes parent seg.node path (record { keys = seg.keys; json = d }) (gathered nodes next) acc found key kind)
    (ap (λ (r : Result Atom DataFault). r >>= λ atom. entered (below path seg.node (atom ∷ [])) Member acc) (atom_again nodes schema seg.node a within fit)
    ∙ ap (λ p. entered p Member acc) (keys_path path seg a is_keys)
    ∙ rw (none_here acc [] (rows_in path next) row order, put_here acc [] (rows_in path next) row order) (ap (λ xs. Ok xs) (sym (append-nil (acc ++ row ∷ [])))))
    later order

none_is_some : {A : Type 0} (x : A) → None ≡ Some x → ⊥
none_is_some x e = absurd (true≢false (sym (ap is_some e)))

branch_again : (k : Kind) (nodes : List SchemaNode) → IsSchema nodes → (parent : Option ℕ) (path : List Seg) (seg : Seg) (own : Option Value) (kids next : Forest) (acc : List Row)
    → (node_at seg.node nodes).kind ≡ k → seg.node < length nodes
    → child_of parent (node_at seg.node nodes).member nodes ≡ Some seg.node → is_key seg.node parent nodes ≡ false → BranchFits nodes k (node_at seg.node nodes) seg own kids
    → Again nodes (Some seg.node) (path ++ seg ∷ []) kids → Again nodes parent path next
    → AreInOrder (acc ++ rows_in path (branch seg own kids next))
    → members_read nodes parent path (members_of nodes (branch_in_front nodes k (node_at seg.node nodes) seg own (members_in nodes kids) (gathered nodes next))) acc ≡ Ok (acc ++ rows_in path (branch seg own kids next))
branch_again Container nodes schema parent path seg None kids next acc kind within found key fit inner later order = container_again nodes parent path seg kids next acc kind found key fit.1 inner later order
branch_again Container nodes schema parent path seg (Some v) kids next acc kind within found key fit inner later order = absurd (none_is_some v (sym fit.0))
branch_again Presence nodes schema parent path seg own kids next acc kind within found key fit inner later order =
    subst (λ (o : Option Value). AreInOrder (acc ++ rows_in path (branch seg o kids next)) → members_read nodes parent path (member (node_at seg.node nodes).member (object (members_in nodes kids)) (members_in nodes next)) acc ≡ Ok (acc ++ rows_in path (branch seg o kids next)))
    (sym fit.0) (presence_again nodes parent path seg kids next acc kind found key fit.1 inner later) order
branch_again Listing nodes schema parent path seg own kids next acc kind within found key fit inner later order =
    subst (λ (o : Option Value). AreInOrder (acc ++ rows_in path (branch seg o kids next)) → members_read nodes parent path (members_of nodes (entry_in_front seg.node (record { keys = seg.keys; json = object (with_keys nodes (node_at seg.node nodes).keys seg.keys (members_in nodes kids)) }) (gathered nodes next))) acc ≡ Ok (acc ++ rows_in path (branch seg o kids next)))
    (sym fit.0) (list_again nodes schema parent path seg kids next acc kind within found key fit.1 inner later) order
branch_again Leaf nodes schema parent path seg own kids next acc kind within found key (v, is_own, fit, bare_keys, is_bare) inner later order =
    subst (λ (o : Option Value). AreInOrder (acc ++ rows_in path (branch seg o kids next)) → members_read nodes parent path (member (node_at seg.node nodes).member (leaf_data (node_at seg.node nodes).ty o) (members_in nodes next)) acc ≡ Ok (acc ++ rows_in path (branch seg o kids next)))
    (sym is_own)
    (subst (λ (f : Forest). AreInOrder (acc ++ rows_in path (branch seg (Some v) f next)) → members_read nodes parent path (member (node_at seg.node nodes).member (leaf_data (node_at seg.node nodes).ty (Some v)) (members_in nodes next)) acc ≡ Ok (acc ++ rows_in path (branch seg (Some v) f next)))
    (sym is_bare) (leaf_again nodes schema parent path seg v next acc kind within found key fit bare_keys later)) order
branch_again LeafList nodes schema parent path seg own kids next acc kind within found key (a, is_own, is_keys, fit, is_bare) inner later order =
    subst (λ (o : Option Value). AreInOrder (acc ++ rows_in path (branch seg o kids next)) → members_read nodes parent path (members_of nodes (entry_in_front seg.node (record { keys = seg.keys; json = one_key_data (node_at seg.node nodes).ty seg.keys }) (gathered nodes next))) acc ≡ Ok (acc ++ rows_in path (branch seg o kids next)))
    (sym is_own)
    (subst (λ (f : Forest). AreInOrder (acc ++ rows_in path (branch seg (Some Member) f next)) → members_read nodes parent path (members_of nodes (entry_in_front seg.node (record { keys = seg.keys; json = one_key_data (node_at seg.node nodes).ty seg.keys }) (gathered nodes next))) acc ≡ Ok (acc ++ rows_in path (branch seg (Some Member) f next)))
    (sym is_bare) (value_entry_again nodes schema parent path seg a next acc kind within found key fit is_keys later)) order

-- what is written of a forest is read again as its rows
pub read_again : (nodes : List SchemaNode) → IsSchema nodes → (parent : Option ℕ) (path : List Seg) (f : Forest) → Fits nodes parent f → Again nodes parent path f
read_again nodes schema parent path bare fit acc order = ap (λ xs. Ok xs) (sym (append-nil acc))
read_again nodes schema parent path (branch seg own kids next) fit acc order =
    branch_again (node_at seg.node nodes).kind nodes schema parent path seg own kids next acc refl fit.2 fit.0 fit.1 fit.3
    (read_again nodes schema (Some seg.node) (path ++ seg ∷ []) kids fit.4) (read_again nodes schema parent path next fit.5) order
