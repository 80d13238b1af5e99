-- What the reading gives at a place, in the words of the data alone.
use Rattle.std.proofs.Common.{◌≡◌, ℕ, ◌<◌, length, List, [], ◌∷◌, ◌++◌, Bool, true, false, true≢false, refl, sym, ap, subst, ◌∙◌, cond, inl, ⊎_elim}
use Rattle.std.specs.Prelude.{◌↔◌, Some, None, is_some, Result, Ok, Err, Contains, nat_eq, if◌then◌else◌}
use Rattle.std.specs.Cmp.Lexicographic.{pointwise}
use Rattle.std.proofs.lemmas.Slice.Eq.{bytes_eq-Decides}
use Rattle.serde_json.specs.Data.{Data, null, boolean, number, string, array, object, no_items, item, Members, no_members, member}
use Rattle.serde_json.specs.Find.{get_member}
use Rattle.yp_base.specs.Rows.{AreInOrder}
use Rattle.yp_base.specs.declared.atom.Atom.{Atom}
use Rattle.yp_base.specs.declared.path.Seg.{Seg}
use Rattle.yp_base.specs.declared.row.Row.{Row}
use Rattle.yp_base.specs.declared.row.Value.TheVariants.{Member, Present}
use Rattle.yp_schema.specs.Datastore.{is_place}
use Rattle.yp_schema.specs.Nodes.{node_at, qualified_name}
use Rattle.yp_schema.specs.WellFormed.{IsSchema}
use Rattle.yp_schema.specs.declared.schema.Kind.{Kind}
use Rattle.yp_schema.specs.declared.schema.Kind.TheVariants.{Container, Presence, List as Listing, Leaf, LeafList}
use Rattle.yp_schema.specs.declared.schema.SchemaNode.{SchemaNode}
use Rattle.yp_data_json.specs.declared.fault.DataFault.{DataFault}
use Rattle.yp_data_json.specs.declared.fault.DataFault.TheVariants.{UnknownElement, InvalidValue}
use Rattle.yp_schema.specs.Values.{typed_atom}
use Rattle.yp_base.specs.Results.{◌>>=◌}
use Rattle.yp_data_json.specs.Reading.{valid, keys_in, below, row_at, entered, value_read, members_read, node_read, entry_read}
use Rattle.yp_data_json.specs.AtPath.{are_keys, named_entry, named_value, array_of_one, by_kind, named_read, outer_read, has_no_members, object_read, rows_read}
use Rattle.yp_base.specs.Paths.{last_segment, above_last}
use Rattle.yp_data_json.specs.Holding.{HasNamesOnce, MembersHaveNamesOnce, IsEntryWith, IsAtomOf, OfKind, IsDataOf, IsEntryOf, DataHolds, EntryHolds, IsOneItem, IsNamed, IsOneMember, SomeHolds, IsDataAt, HoldsAt, IsObject}
use Rattle.yp_data_json.proofs.Places.{rows_last, place_within}
use Rattle.yp_data_json.proofs.Readings.{bound, ok_rows}
use Rattle.yp_data_json.proofs.Wholes.{read_whole, keys_same}
use Rattle.yp_data_json.proofs.RoundTrip.{keys_tie, name_ties}
use Rattle.yp_data_json.proofs.Held.{keys_are, keys_give, atom_is, atom_of, get_here}
use Rattle.yp_data_json.proofs.Adding.{Adds, adds_as, none_some}
use Rattle.yp_data_json.proofs.Accepted.{members_accepted, node_accepted, entry_accepted, value_accepted, IsMemberRow, fresh_put}
use Rattle.yp_data_json.proofs.Accepting.{Gives, next, members_gives, node_gives}
use Rattle.yp_data_json.proofs.SameRows.{contained, among_contained, same_rows}

-- a fault gives nothing
no_rows : {A : Type 0} (e : DataFault) (after : List Row) → Err e ≡ ok_rows after → A
no_rows e after h = let no : ⊥ = cc in absurd no

-- a step that is made where a test holds
tested : {A : Type 0} (b : Bool) (e : DataFault) (r : Result (List Row) DataFault) (after : List Row) → cond b r (Err e) ≡ Ok after → (b ≡ true → r ≡ Ok after → A) → A
tested true e r after h go = go refl h
tested false e r after h go = no_rows e after h

-- ---- an array of one item

one_item : {A : Type 0} (d : Data) (read : Data → Result (List Row) DataFault) (after : List Row) → array_of_one d read ≡ Ok after → ((e : Data) → d ≡ array (item e no_items) → read e ≡ Ok after → A) → A
one_item null read after h go = no_rows InvalidValue after h
one_item (boolean b) read after h go = no_rows InvalidValue after h
one_item (number x) read after h go = no_rows InvalidValue after h
one_item (string s) read after h go = no_rows InvalidValue after h
one_item (object ms) read after h go = no_rows InvalidValue after h
one_item (array no_items) read after h go = no_rows InvalidValue after h
one_item (array (item e no_items)) read after h go = go e refl h
one_item (array (item e (item f ds))) read after h go = no_rows InvalidValue after h

item_gives : (d : Data) (is : Data → Type 0) (read : Data → Result (List Row) DataFault) → IsOneItem is d → HasNamesOnce d → ((e : Data) → HasNamesOnce e → is e → Gives (read e)) → Gives (array_of_one d read)
item_gives null is read of once go = absurd of
item_gives (boolean b) is read of once go = absurd of
item_gives (number x) is read of once go = absurd of
item_gives (string s) is read of once go = absurd of
item_gives (object ms) is read of once go = absurd of
item_gives (array no_items) is read of once go = absurd of
item_gives (array (item e no_items)) is read of once go = go e once.0 of
item_gives (array (item e (item f ds))) is read of once go = absurd of

module _ (nodes : List SchemaNode) (schema : IsSchema nodes) where
  -- ---- what the last segment names

  module _ (above : List Seg) (seg : Seg) (low : seg.node < length nodes) where
    -- the entry that a path names is read as any entry, and its keys are the path's
    entry_named : (e : Data) (after : List Row) → named_entry nodes seg.node above seg.keys e [] ≡ Ok after → (entry_read nodes seg.node above e [] ≡ Ok after) × IsEntryWith nodes seg.node e seg.keys
    entry_named null after h = no_rows InvalidValue after h
    entry_named (boolean b) after h = no_rows InvalidValue after h
    entry_named (number x) after h = no_rows InvalidValue after h
    entry_named (string s) after h = no_rows InvalidValue after h
    entry_named (array ds) after h = no_rows InvalidValue after h
    entry_named (object ms) after h =
        bound (keys_in nodes (node_at seg.node nodes).keys ms)
        (λ found. (if are_keys found seg.keys then entered (below above seg.node found) Present [] else Err InvalidValue) >>= λ mid. members_read nodes (Some seg.node) (below above seg.node found) ms mid) after h
        (λ found e g.
        bound (if are_keys found seg.keys then entered (below above seg.node found) Present [] else Err InvalidValue) (λ mid. members_read nodes (Some seg.node) (below above seg.node found) ms mid) after g
        (λ mid f i.
        tested (are_keys found seg.keys) InvalidValue (entered (below above seg.node found) Present []) mid f
        (λ t j. (
          ap (λ (r : Result (List Atom) DataFault). r >>= λ ks. entered (below above seg.node ks) Present [] >>= λ next. members_read nodes (Some seg.node) (below above seg.node ks) ms next) e
              ∙ ap (λ (r : Result (List Row) DataFault). r >>= λ next. members_read nodes (Some seg.node) (below above seg.node found) ms next) j ∙ i,
          subst (λ (ks : List Atom). IsEntryWith nodes seg.node (object ms) ks) (keys_same found seg.keys t) (keys_are nodes (node_at seg.node nodes).keys ms found e),
        ))))

    entry_gives_named : (e : Data) → HasNamesOnce e → IsEntryOf nodes seg.node e × IsEntryWith nodes seg.node e seg.keys → Gives (named_entry nodes seg.node above seg.keys e [])
    entry_gives_named null once is = absurd is.1
    entry_gives_named (boolean b) once is = absurd is.1
    entry_gives_named (number x) once is = absurd is.1
    entry_gives_named (string s) once is = absurd is.1
    entry_gives_named (array ds) once is = absurd is.1
    entry_gives_named (object ms) once is =
        let at = below above seg.node seg.keys in
        let put = row_at at Present ∷ [] in
        next (keys_in nodes (node_at seg.node nodes).keys ms) seg.keys
        (λ found. (if are_keys found seg.keys then entered (below above seg.node found) Present [] else Err InvalidValue) >>= λ mid. members_read nodes (Some seg.node) (below above seg.node found) ms mid)
        (keys_give nodes (node_at seg.node nodes).keys ms seg.keys is.1)
        (next (if are_keys seg.keys seg.keys then entered at Present [] else Err InvalidValue) put (λ mid. members_read nodes (Some seg.node) at ms mid) (ap (λ b. cond b (ok_rows put) (Err InvalidValue)) (keys_tie seg.keys))
        (members_gives nodes schema ms once (Some seg.node) at put (fresh_put nodes at Present ms [] put refl (λ rest. refl)) is.0.1))

    -- so is a value, and it is the path's
    abbrev IsOwnAtom : Data → Type 0
    IsOwnAtom e = (atom : Atom) × IsAtomOf nodes seg.node e atom × (seg.keys ≡ atom ∷ [])

    value_named : (e : Data) (after : List Row) → named_value nodes seg.node above seg.keys e [] ≡ Ok after → (value_read nodes seg.node above e [] ≡ Ok after) × IsOwnAtom e
    value_named e after h =
        bound (valid (typed_atom (node_at seg.node nodes).ty e)) (λ atom. if are_keys (atom ∷ []) seg.keys then entered (below above seg.node (atom ∷ [])) Member [] else Err InvalidValue) after h
        (λ atom f g.
        tested (are_keys (atom ∷ []) seg.keys) InvalidValue (entered (below above seg.node (atom ∷ [])) Member []) after g
        (λ t i. (
          ap (λ (r : Result Atom DataFault). r >>= λ a. entered (below above seg.node (a ∷ [])) Member []) f ∙ i,
          (atom, atom_is (node_at seg.node nodes).ty e atom f, sym (keys_same (atom ∷ []) seg.keys t)),
        )))

    value_gives_named : (e : Data) → IsOwnAtom e → Gives (named_value nodes seg.node above seg.keys e [])
    value_gives_named e is =
        let put = row_at (below above seg.node (is.0 ∷ [])) Member ∷ [] in
        next (valid (typed_atom (node_at seg.node nodes).ty e)) is.0 (λ atom. if are_keys (atom ∷ []) seg.keys then entered (below above seg.node (atom ∷ [])) Member [] else Err InvalidValue)
        (atom_of (node_at seg.node nodes).ty e is.0 is.1)
        (put, ap (λ b. cond b (ok_rows put) (Err InvalidValue)) (ap (are_keys (is.0 ∷ [])) is.2 ∙ keys_tie (is.0 ∷ [])))

    abbrev IsOwnEntry : Data → Type 0
    IsOwnEntry e = IsEntryOf nodes seg.node e × IsEntryWith nodes seg.node e seg.keys

    -- an array of one item holds what the item holds
    one_entry_holds : (e : Data) (after : List Row) → (node_at seg.node nodes).kind ≡ Listing → Adds (EntryHolds nodes seg.node above e) [] after → Adds (DataHolds nodes seg.node above (array (item e no_items))) [] after
    one_entry_holds e after kind adds =
        adds_as (EntryHolds nodes seg.node above e) (DataHolds nodes seg.node above (array (item e no_items))) [] after
        (λ row x. rw kind (inl x)) (λ row x. let y = rw kind at x in ⊎_elim (λ z. z) (λ z. absurd z) y) adds

    one_value_holds : (e : Data) (after : List Row) → (node_at seg.node nodes).kind ≡ LeafList → Adds (IsMemberRow nodes seg.node above e) [] after → Adds (DataHolds nodes seg.node above (array (item e no_items))) [] after
    one_value_holds e after kind adds =
        adds_as (IsMemberRow nodes seg.node above e) (DataHolds nodes seg.node above (array (item e no_items))) [] after
        (λ row x. rw kind (inl x)) (λ row x. let y = rw kind at x in ⊎_elim (λ z. z) (λ z. absurd z) y) adds

    abbrev named : Data → Kind → Result (List Row) DataFault
    named d k = by_kind k (array_of_one d (λ e. named_entry nodes seg.node above seg.keys e [])) (array_of_one d (λ e. named_value nodes seg.node above seg.keys e [])) (node_read nodes seg.node above d [])

    abbrev NamedAs : Data → Kind → Type 0
    NamedAs d k = OfKind k (IsDataOf nodes seg.node d) (IsOneItem IsOwnEntry d) (IsDataOf nodes seg.node d) (IsOneItem IsOwnAtom d)

    named_accepted : (d : Data) → HasNamesOnce d → (after : List Row) → named_read nodes seg.node above seg.keys d [] ≡ Ok after → IsNamed nodes seg d × Adds (DataHolds nodes seg.node above d) [] after
    named_accepted d once after h =
        elim (node_at seg.node nodes).kind as (λ k. (node_at seg.node nodes).kind ≡ k → named d k ≡ Ok after → NamedAs d k × Adds (DataHolds nodes seg.node above d) [] after) [
          | Container ↦ λ k e. node_accepted nodes schema d once seg.node low above [] after (λ keys rest. refl) e
          | Presence ↦ λ k e. node_accepted nodes schema d once seg.node low above [] after (λ keys rest. refl) e
          | Listing ↦ λ k e.
              one_item d (λ x. named_entry nodes seg.node above seg.keys x []) after e
              (λ x is f.
              let read = entry_named x after f in
              let one = entry_accepted nodes schema x (subst HasNamesOnce is once).0 seg.node low k above [] after (λ keys none rest. refl) read.0 in
              subst (λ (y : Data). IsOneItem IsOwnEntry y × Adds (DataHolds nodes seg.node above y) [] after) (sym is) ((one.entry, read.1), one_entry_holds x after k one.adds))
          | Leaf ↦ λ k e. node_accepted nodes schema d once seg.node low above [] after (λ keys rest. refl) e
          | LeafList ↦ λ k e.
              one_item d (λ x. named_value nodes seg.node above seg.keys x []) after e
              (λ x is f.
              let read = value_named x after f in
              subst (λ (y : Data). IsOneItem IsOwnAtom y × Adds (DataHolds nodes seg.node above y) [] after) (sym is) (read.1, one_value_holds x after k (value_accepted nodes seg.node above x [] after read.0).adds))
        ] refl h

    named_gives : (d : Data) → HasNamesOnce d → IsNamed nodes seg d → Gives (named_read nodes seg.node above seg.keys d [])
    named_gives d once is =
        elim (node_at seg.node nodes).kind as (λ k. NamedAs d k → Gives (named d k)) [
          | Container ↦ λ i. node_gives nodes schema d once seg.node low above [] (λ keys rest. refl) i
          | Presence ↦ λ i. node_gives nodes schema d once seg.node low above [] (λ keys rest. refl) i
          | Listing ↦ λ i. item_gives d IsOwnEntry (λ e. named_entry nodes seg.node above seg.keys e []) i once (λ e o j. entry_gives_named e o j)
          | Leaf ↦ λ i. node_gives nodes schema d once seg.node low above [] (λ keys rest. refl) i
          | LeafList ↦ λ i. item_gives d IsOwnAtom (λ e. named_value nodes seg.node above seg.keys e []) i once (λ e o j. value_gives_named e j)
        ] is

    -- ---- the outer object

    member_named : {A : Type 0} (name : List ℕ) (d : Data) (rows after : List Row) → (if pointwise nat_eq name (qualified_name (node_at seg.node nodes)) then named_read nodes seg.node above seg.keys d rows else Err UnknownElement) ≡ Ok after
        → (name ≡ qualified_name (node_at seg.node nodes) → named_read nodes seg.node above seg.keys d rows ≡ Ok after → A) → A
    member_named name d rows after h go =
        tested (pointwise nat_eq name (qualified_name (node_at seg.node nodes))) UnknownElement (named_read nodes seg.node above seg.keys d rows) after h
        (λ t i. go ((bytes_eq-Decides name (qualified_name (node_at seg.node nodes))).0 t) i)

    outer_accepted : (ms : Members) → MembersHaveNamesOnce ms → (after : List Row) → has_no_members ms ≡ false → outer_read nodes seg.node above seg.keys ms [] ≡ Ok after → IsOneMember nodes seg ms × Adds (SomeHolds nodes seg.node above ms) [] after
    outer_accepted no_members once after some h = absurd (true≢false some)
    outer_accepted (member name d no_members) once after some h =
        bound (if pointwise nat_eq name (qualified_name (node_at seg.node nodes)) then named_read nodes seg.node above seg.keys d [] else Err UnknownElement) (λ mid. ok_rows mid) after h
        (λ mid e g.
        member_named name d [] mid e
        (λ same i.
        let one = named_accepted d once.1 after (i ∙ g) in
        ((same, one.0), adds_as (DataHolds nodes seg.node above d) (SomeHolds nodes seg.node above (member name d no_members)) [] after (λ row x. inl x) (λ row x. ⊎_elim (λ z. z) (λ z. absurd z) x) one.1)))
    outer_accepted (member name d (member other x ms)) once after some h =
        bound (if pointwise nat_eq name (qualified_name (node_at seg.node nodes)) then named_read nodes seg.node above seg.keys d [] else Err UnknownElement) (λ mid. outer_read nodes seg.node above seg.keys (member other x ms) mid) after h
        (λ mid e g.
        bound (if pointwise nat_eq other (qualified_name (node_at seg.node nodes)) then named_read nodes seg.node above seg.keys x mid else Err UnknownElement) (λ last. outer_read nodes seg.node above seg.keys ms last) after g
        (λ last f i.
        member_named name d [] mid e
        (λ same j.
        member_named other x mid last f
        (λ alike k.
        let clash : None ≡ Some x = sym once.0 ∙ ap (λ (l : List ℕ). get_member l (member other x ms)) (same ∙ sym alike) ∙ get_here other x ms in
        absurd (true≢false (sym (ap is_some clash)))))))

    outer_gives : (ms : Members) → MembersHaveNamesOnce ms → IsOneMember nodes seg ms → Gives (if has_no_members ms then Err InvalidValue else outer_read nodes seg.node above seg.keys ms [])
    outer_gives no_members once is = absurd is
    outer_gives (member name d no_members) once is =
        let inner = named_gives d once.1 is.1 in
        next (if pointwise nat_eq name (qualified_name (node_at seg.node nodes)) then named_read nodes seg.node above seg.keys d [] else Err UnknownElement) inner.0 (λ mid. ok_rows mid)
        (ap (λ b. cond b (named_read nodes seg.node above seg.keys d []) (Err UnknownElement)) (ap (λ (l : List ℕ). pointwise nat_eq l (qualified_name (node_at seg.node nodes))) is.0 ∙ name_ties (qualified_name (node_at seg.node nodes))) ∙ inner.1)
        (inner.0, refl)
    outer_gives (member name d (member other x ms)) once is = absurd is

    abbrev IsThere : Data → Type 0
    IsThere d = IsObject (λ ms. IsOneMember nodes seg ms) d

    abbrev HoldsThere : Data → Row → Type 0
    HoldsThere d row = IsObject (λ ms. SomeHolds nodes seg.node above ms row) d

    object_accepted : (d : Data) → HasNamesOnce d → (after : List Row) → object_read nodes seg.node above seg.keys d ≡ Ok after → IsThere d × Adds (HoldsThere d) [] after
    object_accepted null once after h = no_rows InvalidValue after h
    object_accepted (boolean b) once after h = no_rows InvalidValue after h
    object_accepted (number x) once after h = no_rows InvalidValue after h
    object_accepted (string s) once after h = no_rows InvalidValue after h
    object_accepted (array ds) once after h = no_rows InvalidValue after h
    object_accepted (object ms) once after h =
        elim (has_no_members ms) as (λ t. has_no_members ms ≡ t → cond t (Err InvalidValue) (outer_read nodes seg.node above seg.keys ms []) ≡ Ok after → IsThere (object ms) × Adds (HoldsThere (object ms)) [] after) [
          | true ↦ λ e f. no_rows InvalidValue after f
          | false ↦ λ e f. outer_accepted ms once after e f
        ] refl h

    object_gives : (d : Data) → HasNamesOnce d → IsThere d → Gives (object_read nodes seg.node above seg.keys d)
    object_gives null once is = absurd is
    object_gives (boolean b) once is = absurd is
    object_gives (number x) once is = absurd is
    object_gives (string s) once is = absurd is
    object_gives (array ds) once is = absurd is
    object_gives (object ms) once is = outer_gives ms once is

  -- ---- the top

  top_accepted : (d : Data) → HasNamesOnce d → (rows : List Row) → rows_read nodes [] d ≡ Ok rows → IsDataAt nodes [] d × Adds (HoldsAt nodes [] d) [] rows
  top_accepted null once rows h = no_rows InvalidValue rows h
  top_accepted (boolean b) once rows h = no_rows InvalidValue rows h
  top_accepted (number x) once rows h = no_rows InvalidValue rows h
  top_accepted (string s) once rows h = no_rows InvalidValue rows h
  top_accepted (array ds) once rows h = no_rows InvalidValue rows h
  top_accepted (object ms) once rows h = members_accepted nodes schema ms once None [] [] rows (λ name k d child key got. absurd (true≢false (sym key))) (λ n some keys rest. refl) h

  top_gives : (d : Data) → HasNamesOnce d → IsDataAt nodes [] d → Gives (rows_read nodes [] d)
  top_gives null once is = absurd is
  top_gives (boolean b) once is = absurd is
  top_gives (number x) once is = absurd is
  top_gives (string s) once is = absurd is
  top_gives (array ds) once is = absurd is
  top_gives (object ms) once is = members_gives nodes schema ms once None [] [] (λ n some keys rest. refl) is

  -- ---- at any place

  path_split : (s : Seg) (path : List Seg) → s ∷ path ≡ above_last s path ++ last_segment s path ∷ []
  path_split s [] = refl
  path_split s (t ∷ path) = ap (λ (p : List Seg). s ∷ p) (path_split t path)

  last_low : (s : Seg) (path : List Seg) → is_place nodes (s ∷ path) ≡ true → (last_segment s path).node < length nodes
  last_low s path place = place_within nodes (above_last s path) (last_segment s path) (subst (λ (p : List Seg). is_place nodes p ≡ true) (path_split s path) place)

  read_last : (s : Seg) (path : List Seg) (d : Data) → rows_read nodes (s ∷ path) d ≡ object_read nodes (last_segment s path).node (above_last s path) (last_segment s path).keys d
  read_last s path d = ap (λ (p : List Seg). rows_read nodes p d) (path_split s path) ∙ rows_last nodes (above_last s path) (last_segment s path) d

  accepted : (at : List Seg) (d : Data) (rows : List Row) → is_place nodes at ≡ true → HasNamesOnce d → rows_read nodes at d ≡ Ok rows → IsDataAt nodes at d × Adds (HoldsAt nodes at d) [] rows
  accepted [] d rows place once h = top_accepted d once rows h
  accepted (s ∷ path) d rows place once h = object_accepted (above_last s path) (last_segment s path) (last_low s path place) d once rows (sym (read_last s path d) ∙ h)

  gives : (at : List Seg) (d : Data) → is_place nodes at ≡ true → HasNamesOnce d → IsDataAt nodes at d → Gives (rows_read nodes at d)
  gives [] d place once is = top_gives d once is
  gives (s ∷ path) d place once is =
      let inner = object_gives (above_last s path) (last_segment s path) (last_low s path place) d once is in
      (inner.0, read_last s path d ∙ inner.1)

pub accepted_is_data : (nodes : List SchemaNode) (at : List Seg) (d : Data) (rows : List Row) → IsSchema nodes → is_place nodes at ≡ true → HasNamesOnce d → rows_read nodes at d ≡ Ok rows → IsDataAt nodes at d
accepted_is_data nodes at d rows schema place once h = (accepted nodes schema at d rows place once h).0

pub accepted_in_order : (nodes : List SchemaNode) (at : List Seg) (d : Data) (rows : List Row) → is_place nodes at ≡ true → rows_read nodes at d ≡ Ok rows → AreInOrder rows
accepted_in_order nodes at d rows place h = (read_whole nodes at d rows place h).writable.in_order

pub accepted_rows : (nodes : List SchemaNode) (at : List Seg) (d : Data) (rows : List Row) → IsSchema nodes → is_place nodes at ≡ true → HasNamesOnce d → rows_read nodes at d ≡ Ok rows
    → (row : Row) → Contains rows row ↔ HoldsAt nodes at d row
accepted_rows nodes at d rows schema place once h row =
    let adds = (accepted nodes schema at d rows place once h).1 in (
      (λ c. ⊎_elim (λ k. absurd (none_some row.value k)) (λ k. k) (adds.only row (among_contained rows row (accepted_in_order nodes at d rows place h) c))),
      λ k. contained rows row (adds.come row k),
    )

pub is_accepted : (nodes : List SchemaNode) (at : List Seg) (d : Data) (rows : List Row) → IsSchema nodes → is_place nodes at ≡ true → HasNamesOnce d → IsDataAt nodes at d
    → AreInOrder rows → ((row : Row) → Contains rows row ↔ HoldsAt nodes at d row) → rows_read nodes at d ≡ Ok rows
is_accepted nodes at d rows schema place once is order same =
    let read = gives nodes schema at d place once is in
    let adds = (accepted nodes schema at d read.0 place once read.1).1 in
    let equal = same_rows read.0 rows (accepted_in_order nodes at d read.0 place read.1) order
    (λ row k. ⊎_elim (λ l. absurd (none_some row.value l)) (λ l. among_contained rows row order ((same row).1 l)) (adds.only row k))
    (λ row k. adds.come row ((same row).0 (contained rows row k))) in
    read.1 ∙ ap ok_rows equal

pub is_read : (nodes : List SchemaNode) (at : List Seg) (d : Data) → IsSchema nodes → is_place nodes at ≡ true → HasNamesOnce d → IsDataAt nodes at d → (rows : List Row) × (rows_read nodes at d ≡ Ok rows)
is_read nodes at d schema place once is = gives nodes schema at d place once is
