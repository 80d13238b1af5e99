-- Data of a schema is read.
use Rattle.std.proofs.Common.{◌≡◌, ℕ, ◌<◌, length, List, [], ◌∷◌, ◌++◌, Bool, true, false, refl, sym, ap, subst, ◌∙◌, cond, append-nil}
use Rattle.std.specs.Prelude.{◌==◌, option_map, Option, Some, None, is_some, Result, Ok, Err, if◌then◌else◌}
use Rattle.yp_base.specs.declared.atom.Atom.{Atom}
use Rattle.yp_base.specs.declared.leaf_type.LeafType.{LeafType}
use Rattle.yp_base.specs.declared.leaf_type.LeafType.TheVariants.{Bool as TruthType, Int as IntType, Uint as UintType, Dec as DecType, Text as TextType, Names, Empty as EmptyType}
use Rattle.yp_base.specs.declared.path.Seg.{Seg}
use Rattle.yp_base.specs.declared.row.Value.{Value}
use Rattle.yp_base.specs.declared.row.Value.TheVariants.{Atom as Plain, Member, Present}
use Rattle.yp_base.specs.declared.row.Row.{Row}
use Rattle.yp_base.specs.Rows.{value_at, put_row}
use Rattle.yp_value.specs.Json.{value_in}
use Rattle.yp_schema.specs.declared.schema.SchemaNode.{SchemaNode}
use Rattle.yp_schema.specs.declared.schema.Kind.TheVariants.{Container, Presence, List as Listing, Leaf, LeafList}
use Rattle.yp_schema.specs.Nodes.{node_at, child_of, is_key}
use Rattle.yp_schema.specs.WellFormed.{IsSchema}
use Rattle.serde_json.specs.Data.{Data, null, boolean, number, string, array, object, Items, no_items, item, Members, no_members, member}
use Rattle.serde_json.specs.Find.{get_member}
use Rattle.yp_data_json.specs.declared.fault.DataFault.{DataFault}
use Rattle.yp_data_json.specs.declared.fault.DataFault.TheVariants.{UnknownElement, InvalidValue}
use Rattle.yp_schema.specs.Values.{typed_value, typed_atom}
use Rattle.yp_base.specs.Results.{◌>>=◌}
use Rattle.yp_data_json.specs.Reading.{valid, keys_in, below, row_at, leaf_read, entered, value_read, leaf_list_read, in_object, in_array, in_plain, plain_read, for_child, members_read, node_read, entries_read, entry_read}
use Rattle.yp_data_json.specs.Holding.{HasNamesOnce, ItemsHaveNamesOnce, MembersHaveNamesOnce, IsOfType, IsValue, IsEntryWith, IsAtomOf, NoneIs, AreApart, OfKind, AreAtomsOf, AreMembersOf, IsDataOf, AreEntriesOf, IsEntryOf, EntryHolds}
use Rattle.yp_data_json.proofs.Readings.{child_is}
use Rattle.yp_data_json.proofs.Adding.{Adds, Free, still_none, same_keys, none_here}
use Rattle.yp_data_json.proofs.Held.{typed_of, atom_of, one_entry, one_atom, keys_give, get_here, child_named, entry_at}
use Rattle.yp_data_json.proofs.Accepted.{Fresh, one_accepted, fresh_later, fresh_inside, fresh_put, Owned, owned_on, node_accepted, entry_accepted, IsMemberRow, value_accepted}

-- rows that a reading gives
abbrev pub Gives : Result (List Row) DataFault → Type 0
Gives read = (after : List Row) × (read ≡ Ok after)

pub next : {A : Type 0} (r : Result A DataFault) (x : A) (f : A → Result (List Row) DataFault) → r ≡ Ok x → Gives (f x) → Gives (r >>= f)
next r x f e g = (g.0, ap (λ (s : Result _ DataFault). s >>= f) e ∙ g.1)

entered_free : (path : List Seg) (value : Value) (rows : List Row) → value_at path rows ≡ None → entered path value rows ≡ Ok (put_row (row_at path value) rows)
entered_free path value rows none = rw none refl

-- ---- values

plain_none : (b : Bool) (v : Value) → option_map (λ (a : Atom). Plain a) (cond {A = Option Atom} b None None) ≡ Some v → ⊥
plain_none true v h = cc
plain_none false v h = cc

object_none : (ty : LeafType) (ms : Members) (v : Value) → value_in ty (object ms) ≡ Some v → ⊥
object_none TruthType ms v h = cc
object_none (IntType bits) ms v h = plain_none (bits == 64) v h
object_none (UintType bits) ms v h = plain_none (bits == 64) v h
object_none (DecType places) ms v h = cc
object_none TextType ms v h = cc
object_none (Names names) ms v h = cc
object_none EmptyType ms v h = cc

-- an object is no value of any type
no_object : (ty : Option LeafType) (ms : Members) (v : Value) → IsOfType ty (object ms) v → ⊥
no_object None ms v h = h
no_object (Some ty) ms v h = object_none ty ms v h

-- ---- items

-- no item is told by a key whose path has a row
abbrev Absent : {K : Type 0} → (Data → K → Type 0) → (K → List Seg) → Items → List Row → Type 0
Absent is at no_items rows = Unit {0}
Absent {K} is at (item d ds) rows = ((key : K) → is d key → value_at (at key) rows ≡ None) × Absent is at ds rows

absent_all : {K : Type 0} (is : Data → K → Type 0) (at : K → List Seg) (ds : Items) (rows : List Row) → ((key : K) → value_at (at key) rows ≡ None) → Absent is at ds rows
absent_all is at no_items rows none = tt
absent_all is at (item d ds) rows none = ((λ key k. none key), absent_all is at ds rows none)

absent_on : {K : Type 0} (is : Data → K → Type 0) (at : K → List Seg) (ds : Items) (new : Row → Type 0) (rows after : List Row) (key : K) → Adds new rows after
    → ((other : K) (row : Row) → new row → row.path ≡ at other → other ≡ key) → NoneIs is key ds → Absent is at ds rows → Absent is at ds after
absent_on is at no_items new rows after key adds same none absent = tt
absent_on is at (item d ds) new rows after key adds same none absent = (
  (λ other k. still_none new rows after (at other) adds (absent.0 other k) (λ row h e. none.0 (subst (λ x. is d x) (same other row h e) k))),
  absent_on is at ds new rows after key adds same none.1 absent.1,
)

one_key : (a b : Atom) → a ∷ [] ≡ b ∷ [] → a ≡ b
one_key a b e = cc

-- an entry's path tells its keys
path_keys : (path : List Seg) (n : ℕ) (keys other : List Atom) (rest : List Seg) → below path n keys ≡ below path n other ++ rest → keys ≡ other
path_keys path n keys other rest e = same_keys path n n keys other [] rest (append-nil (below path n keys) ∙ e)

module _ (nodes : List SchemaNode) where
  leaf_gives : (n : ℕ) (path : List Seg) (d : Data) (rows : List Row) → IsValue nodes n d → Gives (leaf_read nodes n path d rows)
  leaf_gives n path d rows is =
      next (valid (typed_value (node_at n nodes).ty d)) is.0 (λ value. Ok (put_row (row_at (below path n []) value) rows)) (typed_of (node_at n nodes).ty d is.0 is.1) (put_row (row_at (below path n []) is.0) rows, refl)

  plain_gives : (n : ℕ) (path : List Seg) (d : Data) (rows : List Row) → OfKind (node_at n nodes).kind ⊥ ⊥ (IsValue nodes n d) ⊥ → Gives (plain_read nodes n path d rows)
  plain_gives n path d rows is =
      elim (node_at n nodes).kind as (λ k. OfKind k ⊥ ⊥ (IsValue nodes n d) ⊥ → Gives (in_plain k (leaf_read nodes n path d rows) (Err InvalidValue))) [
        | Container ↦ λ k. absurd k
        | Presence ↦ λ k. absurd k
        | Listing ↦ λ k. absurd k
        | Leaf ↦ λ k. leaf_gives n path d rows k
        | LeafList ↦ λ k. absurd k
      ] is

  pub value_gives : (n : ℕ) (path : List Seg) (d : Data) (rows : List Row) (a : Atom) → IsAtomOf nodes n d a → value_at (below path n (a ∷ [])) rows ≡ None → Gives (value_read nodes n path d rows)
  value_gives n path d rows a is none =
      next (valid (typed_atom (node_at n nodes).ty d)) a (λ atom. entered (below path n (atom ∷ [])) Member rows) (atom_of (node_at n nodes).ty d a is)
      (put_row (row_at (below path n (a ∷ [])) Member) rows, entered_free (below path n (a ∷ [])) Member rows none)

  values_gives : (n : ℕ) (path : List Seg) (ds : Items) (rows : List Row) → AreAtomsOf nodes n ds → AreApart (IsAtomOf nodes n) ds → Absent (IsAtomOf nodes n) (λ atom. below path n (atom ∷ [])) ds rows → Gives (leaf_list_read nodes n path ds rows)
  values_gives n path no_items rows are apart absent = (rows, refl)
  values_gives n path (item d ds) rows are apart absent =
      let a = are.0.0 in
      let one = value_gives n path d rows a are.0.1 (absent.0 a are.0.1) in
      let read = value_accepted nodes n path d rows one.0 one.1 in
      let rest = values_gives n path ds one.0 are.1 apart.1
      (absent_on (IsAtomOf nodes n) (λ atom. below path n (atom ∷ [])) ds (IsMemberRow nodes n path d) rows one.0 a read.adds
      (λ other row h e.
      one_key other h.0 (path_keys path n (other ∷ []) (h.0 ∷ []) [] (sym e ∙ ap (λ (r : Row). r.path) h.2 ∙ sym (append-nil (below path n (h.0 ∷ [])))))
      ∙ one_atom (node_at n nodes).ty d h.0 a h.1 are.0.1)
      (apart.0 a are.0.1) absent.1) in
      next (value_read nodes n path d rows) one.0 (λ mid. leaf_list_read nodes n path ds mid) one.1 rest

  child_gives : (parent : Option ℕ) (path : List Seg) (name : List ℕ) (d : Data) (rows : List Row) (n : ℕ) → child_of parent name nodes ≡ Some n → Gives (node_read nodes n path d rows)
      → Gives (for_child (child_of parent name nodes) (Err UnknownElement) (λ m. if is_key m parent nodes then Ok rows else node_read nodes m path d rows))
  child_gives parent path name d rows n child inner =
      elim (is_key n parent nodes) as (λ t. is_key n parent nodes ≡ t → Gives (for_child (child_of parent name nodes) (Err UnknownElement) (λ m. if is_key m parent nodes then Ok rows else node_read nodes m path d rows))) [
        | true ↦ λ k. (rows, rw (child, k) refl)
        | false ↦ λ k. (inner.0, rw (child, k) inner.1)
      ] refl

  module _ (schema : IsSchema nodes) where
    mutual
      pub members_gives : (ms : Members) → MembersHaveNamesOnce ms → (parent : Option ℕ) (path : List Seg) (rows : List Row) → Fresh nodes path ms rows → AreMembersOf nodes parent ms → Gives (members_read nodes parent path ms rows)
      members_gives no_members once parent path rows fresh are = (rows, refl)
      members_gives (member name d ms) once parent path rows fresh are =
          let n = are.0.0 in
          let child = are.0.1 in
          let here : is_some (get_member (node_at n nodes).member (member name d ms)) ≡ true = ap is_some (ap (λ (l : List ℕ). get_member l (member name d ms)) (child_named nodes parent name n child) ∙ get_here name d ms) in
          let one = child_gives parent path name d rows n child (child_is nodes parent name n child (λ low same. node_gives d once.1 n low path rows (fresh n here) are.0.2)) in
          let read = one_accepted nodes parent path name d ms rows one.0 fresh
          (λ m c k. let same : Some n ≡ Some m = sym child ∙ c in let number : n ≡ m = cc in subst (λ (x : ℕ). IsDataOf nodes x d) number are.0.2)
          (λ m low free i. node_accepted nodes schema d once.1 m low path rows one.0 free i) one.1 in
          let rest = members_gives ms once.2 parent path one.0 (fresh_later nodes parent path name d ms rows one.0 once.0 fresh read.1) are.1 in
          next (for_child (child_of parent name nodes) (Err UnknownElement) (λ m. if is_key m parent nodes then Ok rows else node_read nodes m path d rows)) one.0 (λ mid. members_read nodes parent path ms mid) one.1 rest

      pub node_gives : (d : Data) → HasNamesOnce d → (n : ℕ) → n < length nodes → (path : List Seg) (rows : List Row) → Free path n rows → IsDataOf nodes n d → Gives (node_read nodes n path d rows)
      node_gives null once n low path rows free is = plain_gives n path null rows is
      node_gives (boolean b) once n low path rows free is = plain_gives n path (boolean b) rows is
      node_gives (number x) once n low path rows free is = plain_gives n path (number x) rows is
      node_gives (string s) once n low path rows free is = plain_gives n path (string s) rows is
      node_gives (array ds) once n low path rows free is =
          elim (node_at n nodes).kind as (λ k. (node_at n nodes).kind ≡ k
          → OfKind k ⊥ (AreEntriesOf nodes n ds × AreApart (IsEntryWith nodes n) ds) (IsValue nodes n (array ds)) (AreAtomsOf nodes n ds × AreApart (IsAtomOf nodes n) ds)
          → Gives (in_array k (entries_read nodes n path ds rows) (leaf_read nodes n path (array ds) rows) (leaf_list_read nodes n path ds rows) (Err InvalidValue))) [
            | Container ↦ λ k i. absurd i
            | Presence ↦ λ k i. absurd i
            | Listing ↦ λ k i.
                entries_gives ds once n low k path rows (λ keys none. free keys) i.0 i.1 (absent_all (IsEntryWith nodes n) (λ keys. below path n keys) ds rows (λ keys. none_here (below path n keys) rows (free keys)))
            | Leaf ↦ λ k i. leaf_gives n path (array ds) rows i
            | LeafList ↦ λ k i. values_gives n path ds rows i.0 i.1 (absent_all (IsAtomOf nodes n) (λ atom. below path n (atom ∷ [])) ds rows (λ atom. none_here (below path n (atom ∷ [])) rows (free (atom ∷ []))))
          ] refl is
      node_gives (object ms) once n low path rows free is =
          elim (node_at n nodes).kind as (λ k. OfKind k (AreMembersOf nodes (Some n) ms) ⊥ (IsValue nodes n (object ms)) ⊥
          → Gives (in_object k (members_read nodes (Some n) (below path n []) ms rows) (members_read nodes (Some n) (below path n []) ms (put_row (row_at (below path n []) Present) rows)) (Err InvalidValue))) [
            | Container ↦ λ i. members_gives ms once (Some n) (below path n []) rows (fresh_inside nodes (below path n []) ms rows (free [])) i
            | Presence ↦ λ i.
                members_gives ms once (Some n) (below path n []) (put_row (row_at (below path n []) Present) rows)
                (fresh_put nodes (below path n []) Present ms rows (put_row (row_at (below path n []) Present) rows) refl (free [])) i
            | Listing ↦ λ i. absurd i
            | Leaf ↦ λ i. absurd (no_object (node_at n nodes).ty ms i.0 i.1)
            | LeafList ↦ λ i. absurd i
          ] is

      pub entries_gives : (ds : Items) → ItemsHaveNamesOnce ds → (n : ℕ) → n < length nodes → (node_at n nodes).kind ≡ Listing → (path : List Seg) (rows : List Row) → Owned nodes path n rows
          → AreEntriesOf nodes n ds → AreApart (IsEntryWith nodes n) ds → Absent (IsEntryWith nodes n) (λ keys. below path n keys) ds rows → Gives (entries_read nodes n path ds rows)
      entries_gives no_items once n low kind path rows owned are apart absent = (rows, refl)
      entries_gives (item d ds) once n low kind path rows owned are apart absent =
          let one = entry_gives d once.0 n low path rows owned are.0 absent.0 in
          let read = entry_accepted nodes schema d once.0 n low kind path rows one.0 owned one.1 in
          let rest = entries_gives ds once.1 n low kind path one.0 (owned_on nodes n path d rows one.0 owned read) are.1 apart.1
          (absent_on (IsEntryWith nodes n) (λ keys. below path n keys) ds (EntryHolds nodes n path d) rows one.0 read.keys read.adds
          (λ other row h e. let at = entry_at nodes d n path row h in path_keys path n other at.0 at.1 (sym e ∙ at.3) ∙ one_entry nodes n d at.0 read.keys at.2 read.is)
          (apart.0 read.keys read.is) absent.1) in
          next (entry_read nodes n path d rows) one.0 (λ mid. entries_read nodes n path ds mid) one.1 rest

      pub entry_gives : (d : Data) → HasNamesOnce d → (n : ℕ) → n < length nodes → (path : List Seg) (rows : List Row) → Owned nodes path n rows → IsEntryOf nodes n d
          → ((keys : List Atom) → IsEntryWith nodes n d keys → value_at (below path n keys) rows ≡ None) → Gives (entry_read nodes n path d rows)
      entry_gives null once n low path rows owned is absent = absurd is
      entry_gives (boolean b) once n low path rows owned is absent = absurd is
      entry_gives (number x) once n low path rows owned is absent = absurd is
      entry_gives (string s) once n low path rows owned is absent = absurd is
      entry_gives (array ds) once n low path rows owned is absent = absurd is
      entry_gives (object ms) once n low path rows owned is absent =
          let keys = is.0.0 in
          let none = absent keys is.0.1 in
          let put = put_row (row_at (below path n keys) Present) rows in
          next (keys_in nodes (node_at n nodes).keys ms) keys (λ ks. entered (below path n ks) Present rows >>= λ mid. members_read nodes (Some n) (below path n ks) ms mid) (keys_give nodes (node_at n nodes).keys ms keys is.0.1)
          (next (entered (below path n keys) Present rows) put (λ mid. members_read nodes (Some n) (below path n keys) ms mid) (entered_free (below path n keys) Present rows none)
          (members_gives ms once (Some n) (below path n keys) put (fresh_put nodes (below path n keys) Present ms rows put refl (owned keys none)) is.1))
