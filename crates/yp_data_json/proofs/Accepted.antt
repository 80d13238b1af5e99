-- What is read is data of the schema, and the rows that it adds are those that the data hold.
use Rattle.std.proofs.Common.{◌≡◌, ℕ, ◌<◌, length, List, [], ◌∷◌, true, false, true≢false, refl, sym, ap, subst, ◌∙◌, cond, inl, inr, ⊎_elim}
use Rattle.std.specs.Prelude.{◌⊎◌, Option, Some, None, is_some, Ok, Err, if◌then◌else◌}
use Rattle.yp_base.specs.declared.atom.Atom.{Atom}
use Rattle.yp_base.specs.declared.path.Seg.{Seg}
use Rattle.yp_base.specs.declared.row.Value.{Value}
use Rattle.yp_base.specs.declared.row.Value.TheVariants.{Member, Present}
use Rattle.yp_base.specs.declared.row.Row.{Row}
use Rattle.yp_base.specs.Rows.{value_at, put_row}
use Rattle.yp_schema.specs.declared.schema.SchemaNode.{SchemaNode}
use Rattle.yp_schema.specs.declared.schema.Kind.TheVariants.{Container, Presence, List as Listing, Leaf, LeafList}
use Rattle.yp_schema.specs.Nodes.{node_at, child_of, is_key}
use Rattle.yp_schema.specs.WellFormed.{IsSchema, is_empty, kind_stands}
use Rattle.std.proofs.lemmas.Bool.{and_parts}
use Rattle.serde_json.specs.Data.{Data, null, boolean, number, string, array, object, Items, no_items, item, Members, no_members, member}
use Rattle.serde_json.specs.Find.{get_member}
use Rattle.yp_data_json.specs.declared.fault.DataFault.TheVariants.{UnknownElement, InvalidValue, RepeatedKey}
use Rattle.yp_schema.specs.Values.{typed_value, typed_atom}
use Rattle.yp_base.specs.Results.{◌>>=◌}
use Rattle.yp_data_json.specs.Reading.{valid, keys_in, below, row_at, leaf_read, entered, value_read, leaf_list_read, in_object, in_array, in_plain, plain_read, for_child, members_read, node_read, entries_read, entry_read}
use Rattle.yp_data_json.specs.Holding.{HasNamesOnce, ItemsHaveNamesOnce, MembersHaveNamesOnce, IsValue, IsEntryWith, IsAtomOf, NoneIs, AreApart, OfKind, AreAtomsOf, AreMembersOf, IsDataOf, AreEntriesOf, IsEntryOf, IsLeafRow, ValuesHold, MembersHold, DataHolds, EntriesHold, EntryHolds}
use Rattle.yp_data_json.proofs.Readings.{bound, ok_rows, given, child_is}
use Rattle.yp_data_json.proofs.ReadStands.{entered_is}
use Rattle.yp_data_json.proofs.Whole.{no_key_in}
use Rattle.yp_data_json.proofs.Adding.{Adds, adds_none, adds_on, adds_as, adds_put, FreeBelow, Free, still_free, was_none, some_stays, some_none, same_node, same_keys, none_here, free_inside, put_free}
use Rattle.yp_data_json.proofs.Held.{typed_is, atom_is, one_value, one_atom, keys_are, one_keys, one_entry, get_here, get_later, some_later, child_named, key_of, data_stands, entry_at}

-- ---- one row

entered_none : (path : List Seg) (value : Value) (rows after : List Row) → entered path value rows ≡ Ok after → value_at path rows ≡ None
entered_none path value rows after h =
    elim (value_at path rows) as (λ o. cond (is_some o) (Err RepeatedKey) (ok_rows (put_row (row_at path value) rows)) ≡ Ok after → o ≡ None) [
      | None ↦ λ e. refl
      | Some v ↦ λ e. let no : ⊥ = cc in absurd no
    ] h

pub entered_adds : (path : List Seg) (value : Value) (rows after : List Row) → entered path value rows ≡ Ok after → Adds (λ row. row ≡ row_at path value) rows after
entered_adds path value rows after h = subst (λ (rs : List Row). Adds (λ row. row ≡ row_at path value) rows rs) (entered_is [] [] path value rows after h) (adds_put path value rows (entered_none path value rows after h))

entered_some : (path : List Seg) (value : Value) (rows after : List Row) → entered path value rows ≡ Ok after → is_some (value_at path after) ≡ true
entered_some path value rows after h = ap is_some ((entered_adds path value rows after h).come (row_at path value) refl)

module _ (nodes : List SchemaNode) where
  -- ---- leaves

  leaf_accepted : (n : ℕ) (path : List Seg) (d : Data) (rows after : List Row) → Free path n rows → leaf_read nodes n path d rows ≡ Ok after → IsValue nodes n d × Adds (IsLeafRow nodes n path d) rows after
  leaf_accepted n path d rows after free h =
      bound (valid (typed_value (node_at n nodes).ty d)) (λ value. Ok (put_row (row_at (below path n []) value) rows)) after h
      (λ value e g.
      let is = typed_is (node_at n nodes).ty d value e in (
        (value, is),
        adds_as (λ row. row ≡ row_at (below path n []) value) (IsLeafRow nodes n path d) rows after
            (λ row k. (value, is, k))
            (λ row k. k.2 ∙ ap (λ (v : Value). row_at (below path n []) v) (one_value (node_at n nodes).ty d k.0 value k.1 is))
            (subst (λ (rs : List Row). Adds (λ row. row ≡ row_at (below path n []) value) rows rs) (given _ after g) (adds_put (below path n []) value rows (none_here (below path n []) rows (free [])))),
      ))

  plain_accepted : (n : ℕ) (path : List Seg) (d : Data) (rows after : List Row) → Free path n rows → plain_read nodes n path d rows ≡ Ok after
      → OfKind (node_at n nodes).kind ⊥ ⊥ (IsValue nodes n d) ⊥ × Adds (λ row. OfKind (node_at n nodes).kind ⊥ ⊥ (IsLeafRow nodes n path d row) ⊥) rows after
  plain_accepted n path d rows after free h =
      elim (node_at n nodes).kind as (λ k. in_plain k (leaf_read nodes n path d rows) (Err InvalidValue) ≡ Ok after → OfKind k ⊥ ⊥ (IsValue nodes n d) ⊥ × Adds (λ row. OfKind k ⊥ ⊥ (IsLeafRow nodes n path d row) ⊥) rows after) [
        | Container ↦ λ e. let no : ⊥ = cc in absurd no
        | Presence ↦ λ e. let no : ⊥ = cc in absurd no
        | Listing ↦ λ e. let no : ⊥ = cc in absurd no
        | Leaf ↦ λ e. leaf_accepted n path d rows after free e
        | LeafList ↦ λ e. let no : ⊥ = cc in absurd no
      ] h

  -- ---- leaf-lists

  abbrev pub IsMemberRow : ℕ → List Seg → Data → Row → Type 0
  IsMemberRow n path d row = (atom : Atom) × IsAtomOf nodes n d atom × (row ≡ row_at (below path n (atom ∷ [])) Member)

  -- a value that was read, with its row, which was not there before
  pub record ValueRead (n : ℕ) (path : List Seg) (d : Data) (rows after : List Row) : Type 0 where
    pub atom : Atom
    pub is : IsAtomOf nodes n d atom
    pub new : value_at (below path n (atom ∷ [])) rows ≡ None
    pub there : is_some (value_at (below path n (atom ∷ [])) after) ≡ true
    pub adds : Adds (IsMemberRow n path d) rows after

  pub value_accepted : (n : ℕ) (path : List Seg) (d : Data) (rows after : List Row) → value_read nodes n path d rows ≡ Ok after → ValueRead n path d rows after
  value_accepted n path d rows after h =
      bound (valid (typed_atom (node_at n nodes).ty d)) (λ atom. entered (below path n (atom ∷ [])) Member rows) after h
      (λ atom e g.
      let is = atom_is (node_at n nodes).ty d atom e in
      record {
        atom = atom;
        is = is;
        new = entered_none (below path n (atom ∷ [])) Member rows after g;
        there = entered_some (below path n (atom ∷ [])) Member rows after g;
        adds = adds_as (λ row. row ≡ row_at (below path n (atom ∷ [])) Member) (IsMemberRow n path d) rows after
            (λ row k. (atom, is, k))
            (λ row k. k.2 ∙ ap (λ (a : Atom). row_at (below path n (a ∷ [])) Member) (one_atom (node_at n nodes).ty d k.0 atom k.1 is))
            (entered_adds (below path n (atom ∷ [])) Member rows after g);
      })

  -- the values of a leaf-list that were read: none of those whose rows were there
  record ValuesRead (n : ℕ) (path : List Seg) (ds : Items) (rows after : List Row) : Type 0 where
    each : AreAtomsOf nodes n ds
    apart : AreApart (IsAtomOf nodes n) ds
    adds : Adds (ValuesHold nodes n path ds) rows after
    new : (atom : Atom) → is_some (value_at (below path n (atom ∷ [])) rows) ≡ true → NoneIs (IsAtomOf nodes n) atom ds

  values_accepted : (n : ℕ) (path : List Seg) (ds : Items) (rows after : List Row) → leaf_list_read nodes n path ds rows ≡ Ok after → ValuesRead n path ds rows after
  values_accepted n path no_items rows after h = record {
    each = tt;
    apart = tt;
    adds = subst (λ (rs : List Row). Adds (ValuesHold nodes n path no_items) rows rs) (given rows after h) (adds_none (ValuesHold nodes n path no_items) rows (λ row k. k));
    new = λ atom k. tt;
  }
  values_accepted n path (item d ds) rows after h =
      bound (value_read nodes n path d rows) (λ mid. leaf_list_read nodes n path ds mid) after h
      (λ mid e g.
      let one = value_accepted n path d rows mid e in
      let rest = values_accepted n path ds mid after g in
      record {
        each = ((one.atom, one.is), rest.each);
        apart = (
          (λ atom is. rest.new atom (subst (λ (a : Atom). is_some (value_at (below path n (a ∷ [])) mid) ≡ true) (one_atom (node_at n nodes).ty d one.atom atom one.is is) one.there)),
          rest.apart,
        );
        adds = adds_on (IsMemberRow n path d) (ValuesHold nodes n path ds) rows mid after one.adds rest.adds;
        new = λ atom k. (
          (λ is. some_none (value_at (below path n (atom ∷ [])) rows) k (ap (λ (a : Atom). value_at (below path n (a ∷ [])) rows) (one_atom (node_at n nodes).ty d atom one.atom is one.is) ∙ one.new)),
          rest.new atom (some_stays (IsMemberRow n path d) rows mid (below path n (atom ∷ [])) one.adds k),
        );
      })

  -- ---- members

  -- no row stands at or below a child that is named among the members
  abbrev pub Fresh : List Seg → Members → List Row → Type 0
  Fresh path ms rows = (n : ℕ) → is_some (get_member (node_at n nodes).member ms) ≡ true → Free path n rows

  -- a key among the members is data of its leaf
  abbrev pub KeysFine : Option ℕ → Members → Type 0
  KeysFine parent ms = (name : List ℕ) (k : ℕ) (d : Data) → child_of parent name nodes ≡ Some k → is_key k parent nodes ≡ true → get_member name ms ≡ Some d → IsDataOf nodes k d

  -- what one member holds
  abbrev pub OneHolds : Option ℕ → List Seg → List ℕ → Data → Row → Type 0
  OneHolds parent path name d row = (n : ℕ) × (child_of parent name nodes ≡ Some n) × (is_key n parent nodes ≡ false) × DataHolds nodes n path d row

  abbrev pub IsMemberOf : Option ℕ → List ℕ → Data → Type 0
  IsMemberOf parent name d = (n : ℕ) × (child_of parent name nodes ≡ Some n) × IsDataOf nodes n d

  same_child : (parent : Option ℕ) (name : List ℕ) (n m : ℕ) → child_of parent name nodes ≡ Some n → child_of parent name nodes ≡ Some m → n ≡ m
  same_child parent name n m h k = let e : Some n ≡ Some m = sym h ∙ k in cc

  pub one_accepted : (parent : Option ℕ) (path : List Seg) (name : List ℕ) (d : Data) (ms : Members) (rows after : List Row) → Fresh path (member name d ms) rows
      → ((n : ℕ) → child_of parent name nodes ≡ Some n → is_key n parent nodes ≡ true → IsDataOf nodes n d)
      → ((n : ℕ) → n < length nodes → Free path n rows → node_read nodes n path d rows ≡ Ok after → IsDataOf nodes n d × Adds (DataHolds nodes n path d) rows after)
      → for_child (child_of parent name nodes) (Err UnknownElement) (λ n. if is_key n parent nodes then Ok rows else node_read nodes n path d rows) ≡ Ok after
      → IsMemberOf parent name d × Adds (OneHolds parent path name d) rows after
  one_accepted parent path name d ms rows after fresh fine inner h =
      elim (child_of parent name nodes) as (λ o. child_of parent name nodes ≡ o → for_child o (Err UnknownElement) (λ n. if is_key n parent nodes then Ok rows else node_read nodes n path d rows) ≡ Ok after
      → IsMemberOf parent name d × Adds (OneHolds parent path name d) rows after) [
        | None ↦ λ c f. let no : ⊥ = cc in absurd no
        | Some n ↦ λ c f.
            elim (is_key n parent nodes) as (λ t. is_key n parent nodes ≡ t → cond t (ok_rows rows) (node_read nodes n path d rows) ≡ Ok after → IsMemberOf parent name d × Adds (OneHolds parent path name d) rows after) [
              | true ↦ λ k i. (
                (n, c, fine n c k),
                subst (λ (rs : List Row). Adds (OneHolds parent path name d) rows rs) (given rows after i)
                    (adds_none (OneHolds parent path name d) rows (λ row held. true≢false (sym k ∙ ap (λ (m : ℕ). is_key m parent nodes) (same_child parent name n held.0 c held.1) ∙ held.2))),
              )
              | false ↦ λ k i.
                  let here : is_some (get_member (node_at n nodes).member (member name d ms)) ≡ true = ap is_some (ap (λ (l : List ℕ). get_member l (member name d ms)) (child_named nodes parent name n c) ∙ get_here name d ms) in
                  child_is nodes parent name n c (λ low same.
                  let one = inner n low (fresh n here) i in (
                    (n, c, one.0),
                    adds_as (DataHolds nodes n path d) (OneHolds parent path name d) rows after (λ row x. (n, c, k, x))
                        (λ row x. subst (λ (m : ℕ). DataHolds nodes m path d row) (same_child parent name x.0 n x.1 c) x.3) one.1,
                  ))
            ] refl f
      ] refl h

  -- the places of the later members stay free
  pub fresh_later : (parent : Option ℕ) (path : List Seg) (name : List ℕ) (d : Data) (ms : Members) (rows after : List Row) → get_member name ms ≡ None → Fresh path (member name d ms) rows
      → Adds (OneHolds parent path name d) rows after → Fresh path ms after
  fresh_later parent path name d ms rows after none fresh adds = λ m some keys.
      still_free (OneHolds parent path name d) rows after (below path m keys) adds (fresh m (some_later (node_at m nodes).member name d ms some) keys)
      (λ row held rest e.
      let at = data_stands nodes d held.0 path row held.3 in
      let same : held.0 ≡ m = same_node path held.0 m at.0 keys at.1 rest (sym at.2 ∙ e) in
      let named : (node_at m nodes).member ≡ name = subst (λ (k : ℕ). (node_at k nodes).member ≡ name) same (child_named nodes parent name held.0 held.1) in
      some_none (get_member (node_at m nodes).member ms) some (ap (λ (l : List ℕ). get_member l ms) named ∙ none))

  -- below a free place all is fresh
  pub fresh_inside : (path : List Seg) (ms : Members) (rows : List Row) → FreeBelow path rows → Fresh path ms rows
  fresh_inside path ms rows free = λ m some keys. free_inside path m keys rows free

  pub fresh_put : (path : List Seg) (value : Value) (ms : Members) (rows after : List Row) → put_row (row_at path value) rows ≡ after → FreeBelow path rows → Fresh path ms after
  fresh_put path value ms rows after put free = λ m some. subst (λ (rs : List Row). Free path m rs) put (put_free path value rows free m)

  no_keys : (n : ℕ) → is_empty (node_at n nodes).keys ≡ true → (ms : Members) → KeysFine (Some n) ms
  no_keys n none ms = λ name k d child key got. absurd (true≢false (sym key ∙ no_key_in k (node_at n nodes).keys none))

  -- ---- entries

  -- where an entry has no row of its own, none stands below it
  abbrev pub Owned : List Seg → ℕ → List Row → Type 0
  Owned path n rows = (keys : List Atom) → value_at (below path n keys) rows ≡ None → FreeBelow (below path n keys) rows

  -- an entry that was read, with its row, which was not there before
  pub record EntryRead (n : ℕ) (path : List Seg) (d : Data) (rows after : List Row) : Type 0 where
    pub keys : List Atom
    pub is : IsEntryWith nodes n d keys
    pub new : value_at (below path n keys) rows ≡ None
    pub there : is_some (value_at (below path n keys) after) ≡ true
    pub entry : IsEntryOf nodes n d
    pub adds : Adds (EntryHolds nodes n path d) rows after

  -- the entries of a list that were read: none of those whose rows were there
  pub record EntriesRead (n : ℕ) (path : List Seg) (ds : Items) (rows after : List Row) : Type 0 where
    pub each : AreEntriesOf nodes n ds
    pub apart : AreApart (IsEntryWith nodes n) ds
    pub adds : Adds (EntriesHold nodes n path ds) rows after
    pub new : (keys : List Atom) → is_some (value_at (below path n keys) rows) ≡ true → NoneIs (IsEntryWith nodes n) keys ds

  pub owned_on : (n : ℕ) (path : List Seg) (d : Data) (rows after : List Row) → Owned path n rows → EntryRead n path d rows after → Owned path n after
  owned_on n path d rows after owned one = λ keys none.
      still_free (EntryHolds nodes n path d) rows after (below path n keys) one.adds (owned keys (was_none (EntryHolds nodes n path d) rows after (below path n keys) one.adds none))
      (λ row held rest e.
      let at = entry_at nodes d n path row held in
      let same : at.0 ≡ keys = same_keys path n n at.0 keys at.1 rest (sym at.3 ∙ e) in
      let own : one.keys ≡ keys = one_entry nodes n d one.keys at.0 one.is at.2 ∙ same in
      some_none (value_at (below path n keys) after) (subst (λ (ks : List Atom). is_some (value_at (below path n ks) after) ≡ true) own one.there) none)

  module _ (schema : IsSchema nodes) where
    mutual
      pub members_accepted : (ms : Members) → MembersHaveNamesOnce ms → (parent : Option ℕ) (path : List Seg) (rows after : List Row) → KeysFine parent ms → Fresh path ms rows → members_read nodes parent path ms rows ≡ Ok after
          → AreMembersOf nodes parent ms × Adds (MembersHold nodes parent path ms) rows after
      members_accepted no_members once parent path rows after fine fresh h =
          (tt, subst (λ (rs : List Row). Adds (MembersHold nodes parent path no_members) rows rs) (given rows after h) (adds_none (MembersHold nodes parent path no_members) rows (λ row k. k)))
      members_accepted (member name d ms) once parent path rows after fine fresh h =
          bound (for_child (child_of parent name nodes) (Err UnknownElement) (λ n. if is_key n parent nodes then Ok rows else node_read nodes n path d rows)) (λ mid. members_read nodes parent path ms mid) after h
          (λ mid e g.
          let one : IsMemberOf parent name d × Adds (OneHolds parent path name d) rows mid =
          one_accepted parent path name d ms rows mid fresh (λ n c k. fine name n d c k (get_here name d ms)) (λ n low free i. node_accepted d once.1 n low path rows mid free i) e in
          let rest = members_accepted ms once.2 parent path mid after (λ l k x c key got. fine l k x c key (get_later l name d x ms once.0 got))
          (fresh_later parent path name d ms rows mid once.0 fresh one.1) g in
          ((one.0, rest.0), adds_on (OneHolds parent path name d) (MembersHold nodes parent path ms) rows mid after one.1 rest.1))

      pub node_accepted : (d : Data) → HasNamesOnce d → (n : ℕ) → n < length nodes → (path : List Seg) (rows after : List Row) → Free path n rows → node_read nodes n path d rows ≡ Ok after
          → IsDataOf nodes n d × Adds (DataHolds nodes n path d) rows after
      node_accepted null once n low path rows after free h = plain_accepted n path null rows after free h
      node_accepted (boolean b) once n low path rows after free h = plain_accepted n path (boolean b) rows after free h
      node_accepted (number x) once n low path rows after free h = plain_accepted n path (number x) rows after free h
      node_accepted (string s) once n low path rows after free h = plain_accepted n path (string s) rows after free h
      node_accepted (array ds) once n low path rows after free h =
          elim (node_at n nodes).kind as (λ k. (node_at n nodes).kind ≡ k → in_array k (entries_read nodes n path ds rows) (leaf_read nodes n path (array ds) rows) (leaf_list_read nodes n path ds rows) (Err InvalidValue) ≡ Ok after
          → OfKind k ⊥ (AreEntriesOf nodes n ds × AreApart (IsEntryWith nodes n) ds) (IsValue nodes n (array ds)) (AreAtomsOf nodes n ds × AreApart (IsAtomOf nodes n) ds)
          × Adds (λ row. OfKind k ⊥ (EntriesHold nodes n path ds row) (IsLeafRow nodes n path (array ds) row) (ValuesHold nodes n path ds row)) rows after) [
            | Container ↦ λ k e. let no : ⊥ = cc in absurd no
            | Presence ↦ λ k e. let no : ⊥ = cc in absurd no
            | Listing ↦ λ k e. let all = entries_accepted ds once n low k path rows after (λ keys none. free keys) e in ((all.each, all.apart), all.adds)
            | Leaf ↦ λ k e. leaf_accepted n path (array ds) rows after free e
            | LeafList ↦ λ k e. let all = values_accepted n path ds rows after e in ((all.each, all.apart), all.adds)
          ] refl h
      node_accepted (object ms) once n low path rows after free h =
          elim (node_at n nodes).kind as (λ k. (node_at n nodes).kind ≡ k → in_object k (members_read nodes (Some n) (below path n []) ms rows) (members_read nodes (Some n) (below path n []) ms (put_row (row_at (below path n []) Present) rows)) (Err InvalidValue) ≡ Ok after
          → OfKind k (AreMembersOf nodes (Some n) ms) ⊥ (IsValue nodes n (object ms)) ⊥
          × Adds (λ row. ((k ≡ Presence) × (row ≡ row_at (below path n []) Present)) ⊎ OfKind k (MembersHold nodes (Some n) (below path n []) ms row) ⊥ ⊥ ⊥) rows after) [
            | Container ↦ λ k e.
                let inner = members_accepted ms once (Some n) (below path n []) rows after (no_keys n (and_parts _ _ (subst (λ j. kind_stands j n nodes (node_at n nodes) ≡ true) k (schema.each n low).kind)).0 ms)
                (fresh_inside (below path n []) ms rows (free [])) e in (
                  inner.0,
                  adds_as (MembersHold nodes (Some n) (below path n []) ms) (λ row. ((Container ≡ Presence) × (row ≡ row_at (below path n []) Present)) ⊎ MembersHold nodes (Some n) (below path n []) ms row) rows after
                      (λ row x. inr x) (λ row x. ⊎_elim (λ y. let other : Container ≡ Presence = y.0 in let no : ⊥ = cc in absurd no) (λ y. y) x) inner.1,
                )
            | Presence ↦ λ k e.
                let put = put_row (row_at (below path n []) Present) rows in
                let own = adds_put (below path n []) Present rows (none_here (below path n []) rows (free [])) in
                let inner = members_accepted ms once (Some n) (below path n []) put after (no_keys n (and_parts _ _ (subst (λ j. kind_stands j n nodes (node_at n nodes) ≡ true) k (schema.each n low).kind)).0 ms)
                (fresh_put (below path n []) Present ms rows put refl (free [])) e in (
                  inner.0,
                  adds_as (λ row. (row ≡ row_at (below path n []) Present) ⊎ MembersHold nodes (Some n) (below path n []) ms row)
                      (λ row. ((Presence ≡ Presence) × (row ≡ row_at (below path n []) Present)) ⊎ MembersHold nodes (Some n) (below path n []) ms row) rows after
                      (λ row x. ⊎_elim (λ y. inl (refl, y)) (λ y. inr y) x) (λ row x. ⊎_elim (λ y. inl y.1) (λ y. inr y) x)
                      (adds_on (λ row. row ≡ row_at (below path n []) Present) (MembersHold nodes (Some n) (below path n []) ms) rows put after own inner.1),
                )
            | Listing ↦ λ k e. let no : ⊥ = cc in absurd no
            | Leaf ↦ λ k e. let no : ⊥ = cc in absurd no
            | LeafList ↦ λ k e. let no : ⊥ = cc in absurd no
          ] refl h

      pub entries_accepted : (ds : Items) → ItemsHaveNamesOnce ds → (n : ℕ) → n < length nodes → (node_at n nodes).kind ≡ Listing → (path : List Seg) (rows after : List Row) → Owned path n rows → entries_read nodes n path ds rows ≡ Ok after
          → EntriesRead n path ds rows after
      entries_accepted no_items once n low kind path rows after owned h = record {
        each = tt;
        apart = tt;
        adds = subst (λ (rs : List Row). Adds (EntriesHold nodes n path no_items) rows rs) (given rows after h) (adds_none (EntriesHold nodes n path no_items) rows (λ row k. k));
        new = λ keys k. tt;
      }
      entries_accepted (item d ds) once n low kind path rows after owned h =
          bound (entry_read nodes n path d rows) (λ mid. entries_read nodes n path ds mid) after h
          (λ mid e g.
          let one = entry_accepted d once.0 n low kind path rows mid owned e in
          let rest = entries_accepted ds once.1 n low kind path mid after (owned_on n path d rows mid owned one) g in
          record {
            each = (one.entry, rest.each);
            apart = (
              (λ keys is. rest.new keys (subst (λ (ks : List Atom). is_some (value_at (below path n ks) mid) ≡ true) (one_entry nodes n d one.keys keys one.is is) one.there)),
              rest.apart,
            );
            adds = adds_on (EntryHolds nodes n path d) (EntriesHold nodes n path ds) rows mid after one.adds rest.adds;
            new = λ keys k. (
              (λ is. some_none (value_at (below path n keys) rows) k (ap (λ (ks : List Atom). value_at (below path n ks) rows) (one_entry nodes n d keys one.keys is one.is) ∙ one.new)),
              rest.new keys (some_stays (EntryHolds nodes n path d) rows mid (below path n keys) one.adds k),
            );
          })

      pub entry_accepted : (d : Data) → HasNamesOnce d → (n : ℕ) → n < length nodes → (node_at n nodes).kind ≡ Listing → (path : List Seg) (rows after : List Row) → Owned path n rows → entry_read nodes n path d rows ≡ Ok after
          → EntryRead n path d rows after
      entry_accepted null once n low kind path rows after owned h = let no : ⊥ = cc in absurd no
      entry_accepted (boolean b) once n low kind path rows after owned h = let no : ⊥ = cc in absurd no
      entry_accepted (number x) once n low kind path rows after owned h = let no : ⊥ = cc in absurd no
      entry_accepted (string s) once n low kind path rows after owned h = let no : ⊥ = cc in absurd no
      entry_accepted (array ds) once n low kind path rows after owned h = let no : ⊥ = cc in absurd no
      entry_accepted (object ms) once n low kind path rows after owned h =
          bound (keys_in nodes (node_at n nodes).keys ms) (λ keys. entered (below path n keys) Present rows >>= λ mid. members_read nodes (Some n) (below path n keys) ms mid) after h
          (λ keys e g.
          bound (entered (below path n keys) Present rows) (λ mid. members_read nodes (Some n) (below path n keys) ms mid) after g
          (λ mid f i.
          let has = keys_are nodes (node_at n nodes).keys ms keys e in
          let none = entered_none (below path n keys) Present rows mid f in
          let own = entered_adds (below path n keys) Present rows mid f in
          let inner = members_accepted ms once (Some n) (below path n keys) mid after (key_of nodes schema n low kind ms keys has)
          (fresh_put (below path n keys) Present ms rows mid (entered_is [] [] (below path n keys) Present rows mid f) (owned keys none)) i in
          record {
            keys = keys;
            is = has;
            new = none;
            there = some_stays (MembersHold nodes (Some n) (below path n keys) ms) mid after (below path n keys) inner.1 (entered_some (below path n keys) Present rows mid f);
            entry = ((keys, has), inner.0);
            adds = adds_as (λ row. (row ≡ row_at (below path n keys) Present) ⊎ MembersHold nodes (Some n) (below path n keys) ms row) (EntryHolds nodes n path (object ms)) rows after
                (λ row x. (keys, has, x))
                (λ row x. subst (λ (ks : List Atom). (row ≡ row_at (below path n ks) Present) ⊎ MembersHold nodes (Some n) (below path n ks) ms row) (one_keys nodes (node_at n nodes).keys ms x.0 keys x.1 has) x.2)
                (adds_on (λ row. row ≡ row_at (below path n keys) Present) (MembersHold nodes (Some n) (below path n keys) ms) rows mid after own inner.1);
          }))
