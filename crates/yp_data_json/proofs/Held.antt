-- Values, keys and members by the definitions of what data says, and by those of the reading.
use Rattle.std.proofs.Common.{◌≡◌, ℕ, ◌<◌, length, List, [], ◌∷◌, ◌++◌, true, false, true≢false, ◌||◌, nat_eq, refl, sym, ap, subst, ◌∙◌, append-nil, append_assoc, ⊎_elim, arith, nat_cmp}
use Rattle.std.specs.Prelude.{Option, Some, None, is_some, Result, Ok}
use Rattle.std.specs.Cmp.Lexicographic.{slice_cmp}
use Rattle.std.specs.Ordering.{is_eq, match_ordering}
use Rattle.std.specs.declared.cmp.Ordering.TheVariants.{Less, Equal, Greater}
use Rattle.std.proofs.lemmas.Cmp.{nat_list_cmp_total, tied_itself}
use Rattle.std.proofs.lemmas.Map.Text.{is_eq-slice_cmp}
use Rattle.std.proofs.lemmas.Slice.Eq.{bytes_eq-Decides}
use Rattle.std.proofs.lemmas.Bool.{and_parts, eqb-true}
use Rattle.yp_base.specs.declared.atom.Atom.{Atom}
use Rattle.yp_base.specs.declared.leaf_type.LeafType.{LeafType}
use Rattle.yp_base.specs.declared.path.Seg.{Seg}
use Rattle.yp_base.specs.declared.row.Value.{Value}
use Rattle.yp_base.specs.declared.row.Value.TheVariants.{Atom as Plain, Member, Present}
use Rattle.yp_base.specs.declared.row.Row.{Row}
use Rattle.yp_value.specs.Json.{value_in}
use Rattle.yp_schema.specs.declared.schema.SchemaNode.{SchemaNode}
use Rattle.yp_schema.specs.declared.schema.Kind.{Kind}
use Rattle.yp_schema.specs.declared.schema.Kind.TheVariants.{Container, Presence, List as Listing, Leaf, LeafList}
use Rattle.yp_schema.specs.Nodes.{node_at, child_of, is_child, is_key, is_in}
use Rattle.yp_schema.specs.WellFormed.{IsSchema, is_leaf}
use Rattle.serde_json.specs.Data.{Data, null, boolean, number, string, array, object, Items, no_items, item, Members, no_members, member}
use Rattle.serde_json.specs.Find.{get_member}
use Rattle.yp_data_json.specs.declared.fault.DataFault.{DataFault}
use Rattle.yp_schema.specs.Values.{typed_value, typed_atom}
use Rattle.yp_data_json.specs.Reading.{valid, key_in, at_key, with_key, keys_found, fault_alone, keys_in, below, row_at}
use Rattle.yp_data_json.specs.Holding.{IsOfType, IsValue, HasKey, HasKeyAtoms, IsEntryWith, OfKind, IsDataOf, IsLeafRow, ValuesHold, MembersHold, DataHolds, EntriesHold, EntryHolds}
use Rattle.yp_data_json.proofs.Readings.{valid_some, valid_atom, atom_some, at_key_ok, both_ok, alone_ok, found_place}
use Rattle.yp_data_json.proofs.Steps.{key_leaves}
use Rattle.yp_data_json.proofs.Whole.{key_among}

-- ---- values

pub typed_is : (ty : Option LeafType) (d : Data) (v : Value) → valid (typed_value ty d) ≡ Ok v → IsOfType ty d v
typed_is None d v h = let no : ⊥ = cc in absurd no
typed_is (Some ty) d v h = valid_some (value_in ty d) v h

pub typed_of : (ty : Option LeafType) (d : Data) (v : Value) → IsOfType ty d v → valid (typed_value ty d) ≡ Ok v
typed_of None d v h = absurd h
typed_of (Some ty) d v h = ap valid h

pub atom_is : (ty : Option LeafType) (d : Data) (a : Atom) → valid (typed_atom ty d) ≡ Ok a → IsOfType ty d (Plain a)
atom_is ty d a h = typed_is ty d (Plain a) (ap valid (atom_some ty d a h))

pub atom_of : (ty : Option LeafType) (d : Data) (a : Atom) → IsOfType ty d (Plain a) → valid (typed_atom ty d) ≡ Ok a
atom_of ty d a h = valid_atom ty d a (typed_of ty d (Plain a) h)

pub one_value : (ty : Option LeafType) (d : Data) (v w : Value) → IsOfType ty d v → IsOfType ty d w → v ≡ w
one_value None d v w h k = absurd h
one_value (Some ty) d v w h k = let e : Some v ≡ Some w = sym h ∙ k in cc

same_atom : (a b : Atom) → Plain a ≡ Plain b → a ≡ b
same_atom a b e = cc

pub one_atom : (ty : Option LeafType) (d : Data) (a b : Atom) → IsOfType ty d (Plain a) → IsOfType ty d (Plain b) → a ≡ b
one_atom ty d a b h k = same_atom a b (one_value ty d (Plain a) (Plain b) h k)

-- ---- keys

key_is : (ty : Option LeafType) (o : Option Data) (a : Atom) → key_in ty o ≡ Ok a → (d : Data) × (o ≡ Some d) × IsOfType ty d (Plain a)
key_is ty None a h = let no : ⊥ = cc in absurd no
key_is ty (Some d) a h = (d, refl, atom_is ty d a h)

found_are : (nodes : List SchemaNode) (ks : List ℕ) (ms : Members) (keys : List Atom) → keys_found nodes ks ms ≡ Ok keys → HasKeyAtoms nodes ks ms keys
found_are nodes [] ms keys h = let same : [] ≡ keys = cc in subst (λ (atoms : List Atom). HasKeyAtoms nodes [] ms atoms) same tt
found_are nodes (k ∷ ks) ms keys h =
    both_ok nodes (at_key k (key_in (node_at k nodes).ty (get_member (node_at k nodes).member ms))) (keys_found nodes ks ms) keys h
    (λ a more e f same.
    subst (λ (atoms : List Atom). HasKeyAtoms nodes (k ∷ ks) ms atoms) (sym same)
    (key_is (node_at k nodes).ty (get_member (node_at k nodes).member ms) a (at_key_ok k _ a e), found_are nodes ks ms more f))

pub keys_are : (nodes : List SchemaNode) (ks : List ℕ) (ms : Members) (keys : List Atom) → keys_in nodes ks ms ≡ Ok keys → HasKeyAtoms nodes ks ms keys
keys_are nodes ks ms keys h = found_are nodes ks ms keys (alone_ok (keys_found nodes ks ms) keys h)

found_give : (nodes : List SchemaNode) (ks : List ℕ) (ms : Members) (keys : List Atom) → HasKeyAtoms nodes ks ms keys → keys_found nodes ks ms ≡ Ok keys
found_give nodes [] ms [] h = refl
found_give nodes [] ms (a ∷ keys) h = absurd h
found_give nodes (k ∷ ks) ms [] h = absurd h
found_give nodes (k ∷ ks) ms (a ∷ keys) h =
    let first : key_in (node_at k nodes).ty (get_member (node_at k nodes).member ms) ≡ Ok a = ap (key_in (node_at k nodes).ty) h.0.1 ∙ atom_of (node_at k nodes).ty h.0.0 a h.0.2 in
    ap (λ (r : Result Atom DataFault). with_key nodes (at_key k r) (keys_found nodes ks ms)) first ∙ ap (with_key nodes (Ok a)) (found_give nodes ks ms keys h.1)

pub keys_give : (nodes : List SchemaNode) (ks : List ℕ) (ms : Members) (keys : List Atom) → HasKeyAtoms nodes ks ms keys → keys_in nodes ks ms ≡ Ok keys
keys_give nodes ks ms keys h = ap fault_alone (found_give nodes ks ms keys h)

abbrev ok_atoms : List Atom → Result (List Atom) DataFault
ok_atoms atoms = Ok atoms

same_ok : (a b : List Atom) → ok_atoms a ≡ ok_atoms b → a ≡ b
same_ok a b e = cc

pub one_keys : (nodes : List SchemaNode) (ks : List ℕ) (ms : Members) (a b : List Atom) → HasKeyAtoms nodes ks ms a → HasKeyAtoms nodes ks ms b → a ≡ b
one_keys nodes ks ms a b h k = same_ok a b (sym (keys_give nodes ks ms a h) ∙ keys_give nodes ks ms b k)

pub one_entry : (nodes : List SchemaNode) (n : ℕ) (d : Data) (a b : List Atom) → IsEntryWith nodes n d a → IsEntryWith nodes n d b → a ≡ b
one_entry nodes n null a b h k = absurd h
one_entry nodes n (boolean t) a b h k = absurd h
one_entry nodes n (number x) a b h k = absurd h
one_entry nodes n (string s) a b h k = absurd h
one_entry nodes n (array ds) a b h k = absurd h
one_entry nodes n (object ms) a b h k = one_keys nodes (node_at n nodes).keys ms a b h k

-- ---- members

pub get_here : (name : List ℕ) (d : Data) (ms : Members) → get_member name (member name d ms) ≡ Some d
get_here name d ms = rw (tied_itself nat_list_cmp_total name) refl

get_either : {C : Type 0} (name other : List ℕ) (d : Data) (ms : Members) → (name ≡ other → C) → (get_member name (member other d ms) ≡ get_member name ms → C) → C
get_either {C} name other d ms same apart =
    elim (slice_cmp nat_cmp name other) as (λ o. slice_cmp nat_cmp name other ≡ o → C) [
      | Less ↦ λ e. apart (ap (λ o. match_ordering o (get_member name ms) (Some d) (get_member name ms)) e)
      | Equal ↦ λ e. same ((bytes_eq-Decides name other).0 (sym (is_eq-slice_cmp name other) ∙ ap is_eq e))
      | Greater ↦ λ e. apart (ap (λ o. match_ordering o (get_member name ms) (Some d) (get_member name ms)) e)
    ] refl

pub get_later : (name other : List ℕ) (d x : Data) (ms : Members) → get_member other ms ≡ None → get_member name ms ≡ Some x → get_member name (member other d ms) ≡ Some x
get_later name other d x ms none some =
    get_either name other d ms
    (λ e. let clash : None ≡ Some x = sym none ∙ ap (λ (l : List ℕ). get_member l ms) (sym e) ∙ some in absurd (true≢false (sym (ap is_some clash))))
    (λ e. e ∙ some)

pub some_later : (name other : List ℕ) (d : Data) (ms : Members) → is_some (get_member name ms) ≡ true → is_some (get_member name (member other d ms)) ≡ true
some_later name other d ms some =
    get_either name other d ms
    (λ e. ap is_some (ap (λ (l : List ℕ). get_member l (member other d ms)) e ∙ get_here other d ms))
    (λ e. ap is_some e ∙ some)

-- the child of a name has it
pub child_named : (nodes : List SchemaNode) (parent : Option ℕ) (name : List ℕ) (n : ℕ) → child_of parent name nodes ≡ Some n → (node_at n nodes).member ≡ name
child_named nodes parent name n h =
    let found = found_place (is_child parent name) 0 nodes n h in
    let at : found.0 ≡ n = omega (arith, found.1) in
    subst (λ (k : ℕ). (node_at k nodes).member ≡ name) at ((bytes_eq-Decides (node_at found.0 nodes).member name).0 (and_parts _ _ found.3).1)

-- ---- keys are leaves

is_leaf_kind : (k : Kind) → is_leaf k ≡ true → k ≡ Leaf
is_leaf_kind Container h = absurd (true≢false (sym h))
is_leaf_kind Presence h = absurd (true≢false (sym h))
is_leaf_kind Listing h = absurd (true≢false (sym h))
is_leaf_kind Leaf h = refl
is_leaf_kind LeafList h = absurd (true≢false (sym h))

key_kind : (nodes : List SchemaNode) → IsSchema nodes → (n k : ℕ) → n < length nodes → (node_at n nodes).kind ≡ Listing → is_in k (node_at n nodes).keys ≡ true → (node_at k nodes).kind ≡ Leaf
key_kind nodes schema n k within kind h =
    let leaf = key_among nodes n k (node_at n nodes).keys (key_leaves nodes schema n within kind) h in
    is_leaf_kind (node_at k nodes).kind (and_parts _ _ (and_parts _ _ (and_parts _ _ leaf).0).0).1

leaf_of : (nodes : List SchemaNode) (n : ℕ) (d : Data) → (node_at n nodes).kind ≡ Leaf → IsValue nodes n d → IsDataOf nodes n d
leaf_of nodes n null kind h = subst (λ k. OfKind k ⊥ ⊥ (IsValue nodes n null) ⊥) (sym kind) h
leaf_of nodes n (boolean b) kind h = subst (λ k. OfKind k ⊥ ⊥ (IsValue nodes n (boolean b)) ⊥) (sym kind) h
leaf_of nodes n (number x) kind h = subst (λ k. OfKind k ⊥ ⊥ (IsValue nodes n (number x)) ⊥) (sym kind) h
leaf_of nodes n (string s) kind h = subst (λ k. OfKind k ⊥ ⊥ (IsValue nodes n (string s)) ⊥) (sym kind) h
leaf_of nodes n (array ds) kind h = rw kind h
leaf_of nodes n (object ms) kind h = rw kind h

some_data : (d e : Data) → Some d ≡ Some e → d ≡ e
some_data d e h = cc

key_at : (nodes : List SchemaNode) (k j : ℕ) (ms : Members) (d : Data) (a : Atom) → k ≡ j → HasKey nodes j ms a → get_member (node_at k nodes).member ms ≡ Some d → IsValue nodes k d
key_at nodes k j ms d a same has h =
    let got : get_member (node_at k nodes).member ms ≡ Some has.0 = ap (λ (m : ℕ). get_member (node_at m nodes).member ms) same ∙ has.1 in
    let here : has.0 ≡ d = some_data has.0 d (sym got ∙ h) in
    (Plain a, subst (λ (m : ℕ). IsOfType (node_at m nodes).ty d (Plain a)) (sym same) (subst (λ (x : Data). IsOfType (node_at j nodes).ty x (Plain a)) here has.2))

key_value : (nodes : List SchemaNode) (k : ℕ) (ks : List ℕ) (ms : Members) (keys : List Atom) (d : Data) → HasKeyAtoms nodes ks ms keys → is_in k ks ≡ true → get_member (node_at k nodes).member ms ≡ Some d → IsValue nodes k d
key_value nodes k [] ms keys d has among h = absurd (true≢false (sym among))
key_value nodes k (j ∷ ks) ms [] d has among h = absurd has
key_value nodes k (j ∷ ks) ms (a ∷ keys) d has among h =
    elim (nat_eq k j) as (λ t. nat_eq k j ≡ t → (t || is_in k ks) ≡ true → IsValue nodes k d) [
      | true ↦ λ e f. key_at nodes k j ms d a (eqb-true k j e) has.0 h
      | false ↦ λ e f. key_value nodes k ks ms keys d has.1 f h
    ] refl among

-- a member of an entry that is a key is data of the key leaf
pub key_of : (nodes : List SchemaNode) → IsSchema nodes → (n : ℕ) → n < length nodes → (node_at n nodes).kind ≡ Listing → (ms : Members) (keys : List Atom) → HasKeyAtoms nodes (node_at n nodes).keys ms keys
    → (name : List ℕ) (k : ℕ) (d : Data) → child_of (Some n) name nodes ≡ Some k → is_key k (Some n) nodes ≡ true → get_member name ms ≡ Some d → IsDataOf nodes k d
key_of nodes schema n within kind ms keys has name k d child key h =
    leaf_of nodes k d (key_kind nodes schema n k within kind key)
    (key_value nodes k (node_at n nodes).keys ms keys d has key (ap (λ (l : List ℕ). get_member l ms) (child_named nodes (Some n) name k child) ∙ h))

-- ---- where held rows stand

abbrev pub StandsAt : List Seg → ℕ → Row → Type 0
StandsAt path n row = (keys : List Atom) × (rest : List Seg) × (row.path ≡ below path n keys ++ rest)

abbrev StandsIn : List Seg → Row → Type 0
StandsIn path row = (seg : Seg) × (rest : List Seg) × (row.path ≡ path ++ seg ∷ rest)

at_own : (path : List Seg) (n : ℕ) (keys : List Atom) (value : Value) (row : Row) → row ≡ row_at (below path n keys) value → StandsAt path n row
at_own path n keys value row h = (keys, [], ap (λ (r : Row). r.path) h ∙ sym (append-nil (below path n keys)))

at_in : (path : List Seg) (n : ℕ) (keys : List Atom) (row : Row) → StandsIn (below path n keys) row → StandsAt path n row
at_in path n keys row h = (keys, h.0 ∷ h.1, h.2)

in_at : (path : List Seg) (n : ℕ) (row : Row) → StandsAt path n row → StandsIn path row
in_at path n row h = (record { node = n; keys = h.0 }, h.1, h.2 ∙ append_assoc path (record { node = n; keys = h.0 } ∷ []) h.1)

leaf_stands : (nodes : List SchemaNode) (n : ℕ) (path : List Seg) (d : Data) (row : Row) (kind : Kind) → OfKind kind ⊥ ⊥ (IsLeafRow nodes n path d row) ⊥ → StandsAt path n row
leaf_stands nodes n path d row Container h = absurd h
leaf_stands nodes n path d row Presence h = absurd h
leaf_stands nodes n path d row Listing h = absurd h
leaf_stands nodes n path d row Leaf h = at_own path n [] h.0 row h.2
leaf_stands nodes n path d row LeafList h = absurd h

values_stand : (nodes : List SchemaNode) (n : ℕ) (path : List Seg) (ds : Items) (row : Row) → ValuesHold nodes n path ds row → StandsAt path n row
values_stand nodes n path no_items row h = absurd h
values_stand nodes n path (item d ds) row h = ⊎_elim (λ k. at_own path n (k.0 ∷ []) Member row k.2) (λ k. values_stand nodes n path ds row k) h

module _ (nodes : List SchemaNode) where
  mutual
    members_stand : (ms : Members) → (parent : Option ℕ) (path : List Seg) (row : Row) → MembersHold nodes parent path ms row → StandsIn path row
    members_stand no_members parent path row h = absurd h
    members_stand (member name d ms) parent path row h = ⊎_elim (λ k. in_at path k.0 row (node_stands d k.0 path row k.3)) (λ k. members_stand ms parent path row k) h

    node_stands : (d : Data) → (n : ℕ) (path : List Seg) (row : Row) → DataHolds nodes n path d row → StandsAt path n row
    node_stands null n path row h = leaf_stands nodes n path null row (node_at n nodes).kind h
    node_stands (boolean b) n path row h = leaf_stands nodes n path (boolean b) row (node_at n nodes).kind h
    node_stands (number x) n path row h = leaf_stands nodes n path (number x) row (node_at n nodes).kind h
    node_stands (string s) n path row h = leaf_stands nodes n path (string s) row (node_at n nodes).kind h
    node_stands (array ds) n path row h =
        elim (node_at n nodes).kind as (λ k. OfKind k ⊥ (EntriesHold nodes n path ds row) (IsLeafRow nodes n path (array ds) row) (ValuesHold nodes n path ds row) → StandsAt path n row) [
          | Container ↦ λ k. absurd k
          | Presence ↦ λ k. absurd k
          | Listing ↦ λ k. entries_stand ds n path row k
          | Leaf ↦ λ k. leaf_stands nodes n path (array ds) row Leaf k
          | LeafList ↦ λ k. values_stand nodes n path ds row k
        ] h
    node_stands (object ms) n path row h =
        ⊎_elim (λ k. at_own path n [] Present row k.1)
        (elim (node_at n nodes).kind as (λ k. OfKind k (MembersHold nodes (Some n) (below path n []) ms row) ⊥ ⊥ ⊥ → StandsAt path n row) [
          | Container ↦ λ k. at_in path n [] row (members_stand ms (Some n) (below path n []) row k)
          | Presence ↦ λ k. at_in path n [] row (members_stand ms (Some n) (below path n []) row k)
          | Listing ↦ λ k. absurd k
          | Leaf ↦ λ k. absurd k
          | LeafList ↦ λ k. absurd k
        ]) h

    entries_stand : (ds : Items) → (n : ℕ) (path : List Seg) (row : Row) → EntriesHold nodes n path ds row → StandsAt path n row
    entries_stand no_items n path row h = absurd h
    entries_stand (item d ds) n path row h = ⊎_elim (λ k. entry_stands d n path row k) (λ k. entries_stand ds n path row k) h

    entry_stands : (d : Data) → (n : ℕ) (path : List Seg) (row : Row) → EntryHolds nodes n path d row → StandsAt path n row
    entry_stands null n path row h = absurd h
    entry_stands (boolean b) n path row h = absurd h
    entry_stands (number x) n path row h = absurd h
    entry_stands (string s) n path row h = absurd h
    entry_stands (array ds) n path row h = absurd h
    entry_stands (object ms) n path row h = ⊎_elim (λ k. at_own path n h.0 Present row k) (λ k. at_in path n h.0 row (members_stand ms (Some n) (below path n h.0) row k)) h.2

  -- a row of a node's data stands at or below it
  pub data_stands : (d : Data) (n : ℕ) (path : List Seg) (row : Row) → DataHolds nodes n path d row → StandsAt path n row
  data_stands d n path row h = node_stands d n path row h

  -- a row of an entry stands at or below its keys
  pub entry_at : (d : Data) (n : ℕ) (path : List Seg) (row : Row) → EntryHolds nodes n path d row → (keys : List Atom) × (rest : List Seg) × IsEntryWith nodes n d keys × (row.path ≡ below path n keys ++ rest)
  entry_at null n path row h = absurd h
  entry_at (boolean b) n path row h = absurd h
  entry_at (number x) n path row h = absurd h
  entry_at (string s) n path row h = absurd h
  entry_at (array ds) n path row h = absurd h
  entry_at (object ms) n path row h =
      ⊎_elim
      (λ k. (h.0, [], h.1, ap (λ (r : Row). r.path) k ∙ sym (append-nil (below path n h.0))))
      (λ k. let inner = members_stand ms (Some n) (below path n h.0) row k in (h.0, inner.0 ∷ inner.1, h.1, inner.2)) h.2
