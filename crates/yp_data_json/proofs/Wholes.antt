-- What is read at a place is all that stands there.
use Rattle.std.proofs.Common.{◌≡◌, ℕ, List, [], ◌∷◌, ◌++◌, Bool, true, false, refl, sym, ap, subst, ◌∙◌, cond}
use Rattle.std.specs.Prelude.{Option, Some, None, is_some, Result, Ok, Err, if◌then◌else◌, nat_eq}
use Rattle.std.specs.Cmp.Lexicographic.{pointwise}
use Rattle.std.specs.List.Sorted.{IsStrictlySortedBy}
use Rattle.std.proofs.lemmas.Bool.{and_parts, and_from, not-true}
use Rattle.std.proofs.lemmas.Slice.Eq.{slice_eq-Decides}
use Rattle.yp_base.specs.declared.atom.Atom.{Atom}
use Rattle.yp_base.specs.declared.path.Seg.{Seg}
use Rattle.yp_base.specs.declared.row.Value.TheVariants.{Member, Present}
use Rattle.yp_base.specs.declared.row.Row.{Row}
use Rattle.yp_base.specs.Order.{is_within}
use Rattle.yp_base.specs.OrderLaws.{atoms_total}
use Rattle.yp_base.specs.Rows.{put_row}
use Rattle.yp_base.specs.Exact.{order_decides, atoms_exact}
use Rattle.yp_schema.specs.declared.schema.SchemaNode.{SchemaNode}
use Rattle.yp_schema.specs.declared.schema.Kind.{Kind}
use Rattle.yp_schema.specs.declared.schema.Kind.TheVariants.{Container, Presence, List as Listing, Leaf, LeafList}
use Rattle.yp_schema.specs.Nodes.{node_at, qualified_name}
use Rattle.yp_schema.specs.Datastore.{value_of_kind, keys_of_kind, goes_down, is_path_of, is_key_at, ends_in_key, is_place, is_entry_kind, is_leaf_kind, last_kind_is, ends_in_entry, has_row, AreWhole}
use Rattle.serde_json.specs.Data.{Data, null, boolean, number, string, array, object, Items, no_items, item, Members, no_members, member}
use Rattle.yp_data_json.specs.declared.fault.DataFault.{DataFault}
use Rattle.yp_data_json.specs.declared.fault.DataFault.TheVariants.{UnknownElement, InvalidValue}
use Rattle.yp_schema.specs.Values.{typed_value, typed_atom}
use Rattle.yp_base.specs.Results.{◌>>=◌}
use Rattle.yp_data_json.specs.Reading.{valid, keys_in, below, row_at, leaf_read, entered, in_object, in_array, in_plain, members_read, node_read, entries_read, leaf_list_read, datastore_read}
use Rattle.yp_data_json.specs.AtPath.{are_keys, named_entry, named_value, array_of_one, by_kind, named_read, outer_read, has_no_members, object_read, rows_read}
use Rattle.yp_base.specs.PathLaws.{within_itself}
use Rattle.yp_data_json.proofs.Places.{rows_last}
use Rattle.yp_data_json.proofs.PutRows.{put_there}
use Rattle.yp_data_json.proofs.Growing.{Stand, Grown, grown_still, grown_on}
use Rattle.yp_data_json.proofs.Readings.{bound, ok_rows, given}
use Rattle.yp_data_json.proofs.ReadStands.{Spot, Here, Under, spot_on, put_spot, under_spot, entered_grown, entered_there, members_grown, node_grown}
use Rattle.yp_schema.specs.SchemaLaws.{last_node_append, empty_keys}

-- a path isn't at or below a longer one
pub too_short : (front rest : List Seg) (seg : Seg) → is_within ((front ++ rest) ++ seg ∷ []) front ≡ true → ⊥
too_short [] [] seg h = cc
too_short [] (r ∷ rest) seg h = cc
too_short (s ∷ front) rest seg h = too_short front rest seg (and_parts _ _ h).1

pub keys_same : (found keys : List Atom) → are_keys found keys ≡ true → found ≡ keys
keys_same found keys h = (slice_eq-Decides (order_decides atoms_total atoms_exact) found keys (are_keys found keys) refl).0 h

-- whether a node of this kind, or an entry of it, has a row of its own
abbrev is_own : Kind → Bool
is_own Container = false
is_own Presence = true
is_own Listing = true
is_own Leaf = true
is_own LeafList = true

leaf_is_own : (k : Kind) → is_leaf_kind k ≡ true → is_own k ≡ true
leaf_is_own Container h = cc
leaf_is_own Presence h = refl
leaf_is_own Listing h = refl
leaf_is_own Leaf h = refl
leaf_is_own LeafList h = refl

entry_is_own : (k : Kind) → is_entry_kind k ≡ true → is_own k ≡ true
entry_is_own Container h = cc
entry_is_own Presence h = refl
entry_is_own Listing h = refl
entry_is_own Leaf h = refl
entry_is_own LeafList h = refl

-- no rows stand anywhere
stand_none : (nodes : List SchemaNode) (at : List Seg) → Stand nodes at []
unfolding IsStrictlySortedBy
stand_none nodes at = record { in_order = tt; of_schema = tt; within = tt; entries = λ front rest within entry h. let no : ⊥ = cc in absurd no }

module _ (nodes : List SchemaNode) (above : List Seg) (seg : Seg) where
  abbrev at : List Seg
  at = above ++ seg ∷ []

  abbrev kind : Kind
  kind = (node_at seg.node nodes).kind

  place_parts : (front : List Seg) → is_place nodes (front ++ seg ∷ []) ≡ true → (is_path_of nodes (front ++ seg ∷ []) ≡ true) × (ends_in_key nodes (front ++ seg ∷ []) ≡ false)
  place_parts [] h = ((and_parts _ _ h).0, not-true _ (and_parts _ _ h).1)
  place_parts (s ∷ front) h = ((and_parts _ _ h).0, not-true _ (and_parts _ _ h).1)

  down_fit : (parent : Option ℕ) (front : List Seg) → goes_down nodes parent (front ++ seg ∷ []) ≡ true → keys_of_kind kind nodes (node_at seg.node nodes) seg.keys ≡ true
  down_fit parent [] h = (and_parts _ _ (and_parts _ _ (and_parts _ _ h).0).1).1
  down_fit parent (s ∷ front) h = down_fit (Some s.node) front (and_parts _ _ h).1

  path_fit : (front : List Seg) → is_path_of nodes (front ++ seg ∷ []) ≡ true → keys_of_kind kind nodes (node_at seg.node nodes) seg.keys ≡ true
  path_fit [] h = down_fit None [] h
  path_fit (s ∷ front) h = down_fit None (s ∷ front) h

  module _ (place : is_place nodes at ≡ true) where
    top_spot : (rows : List Row) → Spot nodes at seg.node above seg.keys rows
    top_spot rows = record {
      free = sym (ap (is_key_at nodes) (last_node_append above seg)) ∙ (place_parts above place).1;
      place = (place_parts above place).0;
      inside = within_itself at;
      above = λ front rest e within entry. absurd (too_short front rest seg (subst (λ (p : List Seg). is_within (p ++ seg ∷ []) front ≡ true) (sym e) within));
    }

    -- a node that asks for no keys
    top_here : (rows : List Row) → ((keys : List Atom) → keys_of_kind kind nodes (node_at seg.node nodes) keys ≡ true → keys ≡ []) → Here nodes at seg.node above rows
    top_here rows none = λ keys fit. subst (λ (ks : List Atom). Spot nodes at seg.node above ks rows) (none seg.keys (path_fit above (place_parts above place).0) ∙ sym (none keys fit)) (top_spot rows)

    asks_none : (k : Kind) → kind ≡ k → ((keys : List Atom) → keys_of_kind k nodes (node_at seg.node nodes) keys ≡ true → keys ≡ []) → (keys : List Atom) → keys_of_kind kind nodes (node_at seg.node nodes) keys ≡ true → keys ≡ []
    asks_none k e none keys fit = none keys (sym (ap (λ j. keys_of_kind j nodes (node_at seg.node nodes) keys) e) ∙ fit)

    bare_at : (k : Kind) → kind ≡ k → ((keys : List Atom) → keys_of_kind k nodes (node_at seg.node nodes) keys ≡ true → keys ≡ []) → below above seg.node [] ≡ at
    bare_at k e none = ap (λ (ks : List Atom). below above seg.node ks) (sym (asks_none k e none seg.keys (path_fit above (place_parts above place).0)))

    -- the row of a leaf
    leaf_own : (d : Data) (rows after : List Row) → kind ≡ Leaf → leaf_read nodes seg.node above d rows ≡ Ok after → has_row at after ≡ true
    leaf_own d rows after e h =
        bound (valid (typed_value (node_at seg.node nodes).ty d)) (λ value. Ok (put_row (row_at (below above seg.node []) value) rows)) after h
        (λ value f g.
        subst (λ (rs : List Row). has_row at rs ≡ true) (given _ after g)
        (subst (λ (p : List Seg). has_row p (put_row (row_at (below above seg.node []) value) rows) ≡ true) (bare_at Leaf e empty_keys) (ap is_some (put_there (below above seg.node []) value rows))))

    as_plain : (k : Kind) (d : Data) (rows after : List Row) → kind ≡ k → in_plain kind (leaf_read nodes seg.node above d rows) (Err InvalidValue) ≡ Ok after → in_plain k (leaf_read nodes seg.node above d rows) (Err InvalidValue) ≡ Ok after
    as_plain k d rows after e h = subst (λ j. in_plain j (leaf_read nodes seg.node above d rows) (Err InvalidValue) ≡ Ok after) e h

    as_array : (k : Kind) (ds : Items) (rows after : List Row) → kind ≡ k → node_read nodes seg.node above (array ds) rows ≡ Ok after →
        in_array k (entries_read nodes seg.node above ds rows) (leaf_read nodes seg.node above (array ds) rows) (leaf_list_read nodes seg.node above ds rows) (Err InvalidValue) ≡ Ok after
    as_array k ds rows after e h = subst (λ j. in_array j (entries_read nodes seg.node above ds rows) (leaf_read nodes seg.node above (array ds) rows) (leaf_list_read nodes seg.node above ds rows) (Err InvalidValue) ≡ Ok after) e h

    as_object : (k : Kind) (ms : Members) (rows after : List Row) → kind ≡ k → node_read nodes seg.node above (object ms) rows ≡ Ok after →
        in_object k (members_read nodes (Some seg.node) (below above seg.node []) ms rows) (members_read nodes (Some seg.node) (below above seg.node []) ms (put_row (row_at (below above seg.node []) Present) rows)) (Err InvalidValue) ≡ Ok after
    as_object k ms rows after e h = subst (λ j. in_object j (members_read nodes (Some seg.node) (below above seg.node []) ms rows) (members_read nodes (Some seg.node) (below above seg.node []) ms (put_row (row_at (below above seg.node []) Present) rows)) (Err InvalidValue) ≡ Ok after) e h

    -- a fault gives nothing
    no_rows : {A : Type 0} (after : List Row) → Err InvalidValue ≡ ok_rows after → A
    no_rows after h = let no : ⊥ = cc in absurd no

    node_leaf : (d : Data) (rows after : List Row) → kind ≡ Leaf → node_read nodes seg.node above d rows ≡ Ok after → has_row at after ≡ true
    node_leaf null rows after e h = leaf_own null rows after e (as_plain Leaf null rows after e h)
    node_leaf (boolean b) rows after e h = leaf_own (boolean b) rows after e (as_plain Leaf (boolean b) rows after e h)
    node_leaf (number x) rows after e h = leaf_own (number x) rows after e (as_plain Leaf (number x) rows after e h)
    node_leaf (string s) rows after e h = leaf_own (string s) rows after e (as_plain Leaf (string s) rows after e h)
    node_leaf (array ds) rows after e h = leaf_own (array ds) rows after e (as_array Leaf ds rows after e h)
    node_leaf (object ms) rows after e h = no_rows after (as_object Leaf ms rows after e h)

    node_presence : (d : Data) (rows after : List Row) → kind ≡ Presence → Stand nodes at rows → node_read nodes seg.node above d rows ≡ Ok after → has_row at after ≡ true
    node_presence null rows after e stand h = no_rows after (as_plain Presence null rows after e h)
    node_presence (boolean b) rows after e stand h = no_rows after (as_plain Presence (boolean b) rows after e h)
    node_presence (number x) rows after e stand h = no_rows after (as_plain Presence (number x) rows after e h)
    node_presence (string s) rows after e stand h = no_rows after (as_plain Presence (string s) rows after e h)
    node_presence (array ds) rows after e stand h = no_rows after (as_array Presence ds rows after e h)
    node_presence (object ms) rows after e stand h =
        let spot = top_here rows (asks_none Presence e empty_keys) [] (ap (λ j. keys_of_kind j nodes (node_at seg.node nodes) []) e) in
        let put = put_spot nodes at seg.node above [] Present rows spot stand (ap (λ j. value_of_kind j (node_at seg.node nodes).ty Present) e) in
        let there : has_row (below above seg.node []) (put_row (row_at (below above seg.node []) Present) rows) ≡ true = ap is_some (put_there (below above seg.node []) Present rows) in
        let grown = members_grown nodes at ms (Some seg.node) (below above seg.node []) (put_row (row_at (below above seg.node []) Present) rows) after
        (under_spot nodes at seg.node above [] (put_row (row_at (below above seg.node []) Present) rows) (spot_on spot put) (λ entry. there)) put.stand (as_object Presence ms rows after e h) in
        subst (λ (p : List Seg). has_row p after ≡ true) (bare_at Presence e empty_keys) (grown.keep (below above seg.node []) there)

    -- ---- the entry that the place names

    entry_named : (d : Data) (rows after : List Row) → kind ≡ Listing → Stand nodes at rows → named_entry nodes seg.node above seg.keys d rows ≡ Ok after → Grown nodes at rows after × (has_row at after ≡ true)
    entry_named null rows after e stand h = no_rows after h
    entry_named (boolean b) rows after e stand h = no_rows after h
    entry_named (number x) rows after e stand h = no_rows after h
    entry_named (string s) rows after e stand h = no_rows after h
    entry_named (array ds) rows after e stand h = no_rows after h
    entry_named (object ms) rows after e stand h =
        bound (keys_in nodes (node_at seg.node nodes).keys ms)
        (λ found. (if are_keys found seg.keys then entered (below above seg.node found) Present rows else Err InvalidValue) >>= λ mid. members_read nodes (Some seg.node) (below above seg.node found) ms mid) after h
        (λ found f g.
        bound (if are_keys found seg.keys then entered (below above seg.node found) Present rows else Err InvalidValue) (λ mid. members_read nodes (Some seg.node) (below above seg.node found) ms mid) after g
        (λ mid i j.
        named_keys found (entered (below above seg.node found) Present rows) mid i
        (λ same entry.
        let spot : Spot nodes at seg.node above found rows = subst (λ (ks : List Atom). Spot nodes at seg.node above ks rows) (sym same) (top_spot rows) in
        let put = entered_grown nodes at seg.node above found Present rows mid spot stand (ap (λ k. value_of_kind k (node_at seg.node nodes).ty Present) e) entry in
        let there = entered_there nodes at (below above seg.node found) Present rows mid entry in
        let grown = members_grown nodes at ms (Some seg.node) (below above seg.node found) mid after (under_spot nodes at seg.node above found mid (spot_on spot put) (λ k. there)) put.stand j in
        (grown_on put grown, subst (λ (ks : List Atom). has_row (below above seg.node ks) after ≡ true) same (grown.keep (below above seg.node found) there)))))
      where
        named_keys : {C : Type 0} (found : List Atom) (r : Result (List Row) DataFault) (mid : List Row) → (if are_keys found seg.keys then r else Err InvalidValue) ≡ Ok mid → (found ≡ seg.keys → r ≡ Ok mid → C) → C
        named_keys {C} found r mid h go =
            elim (are_keys found seg.keys) as (λ t. are_keys found seg.keys ≡ t → cond t r (Err InvalidValue) ≡ Ok mid → C) [
              | true ↦ λ e f. go (keys_same found seg.keys e) f
              | false ↦ λ e f. no_rows mid f
            ] refl h

    value_named : (d : Data) (rows after : List Row) → kind ≡ LeafList → Stand nodes at rows → named_value nodes seg.node above seg.keys d rows ≡ Ok after → Grown nodes at rows after × (has_row at after ≡ true)
    value_named d rows after e stand h =
        bound (valid (typed_atom (node_at seg.node nodes).ty d)) (λ atom. if are_keys (atom ∷ []) seg.keys then entered (below above seg.node (atom ∷ [])) Member rows else Err InvalidValue) after h
        (λ atom f g.
        elim (are_keys (atom ∷ []) seg.keys) as (λ t. are_keys (atom ∷ []) seg.keys ≡ t → cond t (entered (below above seg.node (atom ∷ [])) Member rows) (Err InvalidValue) ≡ Ok after → Grown nodes at rows after × (has_row at after ≡ true)) [
          | true ↦ λ k i.
              let same = keys_same (atom ∷ []) seg.keys k in
              let spot : Spot nodes at seg.node above (atom ∷ []) rows = subst (λ (ks : List Atom). Spot nodes at seg.node above ks rows) (sym same) (top_spot rows) in (
                entered_grown nodes at seg.node above (atom ∷ []) Member rows after spot stand (ap (λ j. value_of_kind j (node_at seg.node nodes).ty Member) e) i,
                subst (λ (ks : List Atom). has_row (below above seg.node ks) after ≡ true) same (entered_there nodes at (below above seg.node (atom ∷ [])) Member rows after i),
              )
          | false ↦ λ k i. no_rows after i
        ] refl g)

    one_named : {C : Type 0} (d : Data) (read : Data → Result (List Row) DataFault) (after : List Row) → array_of_one d read ≡ Ok after → ((e : Data) → read e ≡ Ok after → C) → C
    one_named null read after h go = no_rows after h
    one_named (boolean b) read after h go = no_rows after h
    one_named (number x) read after h go = no_rows after h
    one_named (string s) read after h go = no_rows after h
    one_named (object ms) read after h go = no_rows after h
    one_named (array no_items) read after h go = no_rows after h
    one_named (array (item e no_items)) read after h go = go e h
    one_named (array (item e (item f ds))) read after h go = no_rows after h

    -- what the place names is read with its own row
    named_grown : (d : Data) (rows after : List Row) → Stand nodes at rows → named_read nodes seg.node above seg.keys d rows ≡ Ok after → Grown nodes at rows after × (is_own kind ≡ true → has_row at after ≡ true)
    named_grown d rows after stand h =
        elim kind as (λ k. kind ≡ k → by_kind k (array_of_one d (λ e. named_entry nodes seg.node above seg.keys e rows)) (array_of_one d (λ e. named_value nodes seg.node above seg.keys e rows)) (node_read nodes seg.node above d rows) ≡ Ok after → Grown nodes at rows after × (is_own k ≡ true → has_row at after ≡ true)) [
          | Container ↦ λ k e. (node_grown nodes at d seg.node above rows after (top_here rows (asks_none Container k empty_keys)) stand e, λ own. let no : ⊥ = cc in absurd no)
          | Presence ↦ λ k e. (node_grown nodes at d seg.node above rows after (top_here rows (asks_none Presence k empty_keys)) stand e, λ own. node_presence d rows after k stand e)
          | Listing ↦ λ k e. one_named d (λ e. named_entry nodes seg.node above seg.keys e rows) after e (λ one f. let both = entry_named one rows after k stand f in (both.0, λ own. both.1))
          | Leaf ↦ λ k e. (node_grown nodes at d seg.node above rows after (top_here rows (asks_none Leaf k empty_keys)) stand e, λ own. node_leaf d rows after k e)
          | LeafList ↦ λ k e. one_named d (λ e. named_value nodes seg.node above seg.keys e rows) after e (λ one f. let both = value_named one rows after k stand f in (both.0, λ own. both.1))
        ] refl h

    member_grown : (name : List ℕ) (d : Data) (rows mid : List Row) → Stand nodes at rows → (if pointwise nat_eq name (qualified_name (node_at seg.node nodes)) then named_read nodes seg.node above seg.keys d rows else Err UnknownElement) ≡ Ok mid →
        (Grown nodes at rows mid × (is_own kind ≡ true → has_row at mid ≡ true))
    member_grown name d rows mid stand h =
        elim (pointwise nat_eq name (qualified_name (node_at seg.node nodes))) as (λ t. cond t (named_read nodes seg.node above seg.keys d rows) (Err UnknownElement) ≡ Ok mid → Grown nodes at rows mid × (is_own kind ≡ true → has_row at mid ≡ true)) [
          | true ↦ λ e. named_grown d rows mid stand e
          | false ↦ λ e. let no : ⊥ = cc in absurd no
        ] h

    outer_grown : (ms : Members) (rows after : List Row) → Stand nodes at rows → outer_read nodes seg.node above seg.keys ms rows ≡ Ok after → Grown nodes at rows after
    outer_grown no_members rows after stand h = subst (λ (rs : List Row). Grown nodes at rows rs) (given rows after h) (grown_still stand)
    outer_grown (member name d ms) rows after stand h =
        bound (if pointwise nat_eq name (qualified_name (node_at seg.node nodes)) then named_read nodes seg.node above seg.keys d rows else Err UnknownElement) (λ mid. outer_read nodes seg.node above seg.keys ms mid) after h
        (λ mid e g. let one = (member_grown name d rows mid stand e).0 in grown_on one (outer_grown ms mid after one.stand g))

    outer_own : (ms : Members) (rows after : List Row) → Stand nodes at rows → has_no_members ms ≡ false → outer_read nodes seg.node above seg.keys ms rows ≡ Ok after → is_own kind ≡ true → has_row at after ≡ true
    outer_own no_members rows after stand some h own = let no : ⊥ = cc in absurd no
    outer_own (member name d ms) rows after stand some h own =
        bound (if pointwise nat_eq name (qualified_name (node_at seg.node nodes)) then named_read nodes seg.node above seg.keys d rows else Err UnknownElement) (λ mid. outer_read nodes seg.node above seg.keys ms mid) after h
        (λ mid e g. let one = member_grown name d rows mid stand e in (outer_grown ms mid after one.0.stand g).keep at (one.1 own))

    bare_or : {C : Type 0} (ms : Members) (r : Result (List Row) DataFault) (after : List Row) → (if has_no_members ms then Err InvalidValue else r) ≡ Ok after → (has_no_members ms ≡ false → r ≡ Ok after → C) → C
    bare_or {C} ms r after h go =
        elim (has_no_members ms) as (λ t. has_no_members ms ≡ t → cond t (Err InvalidValue) r ≡ Ok after → C) [
          | true ↦ λ e f. no_rows after f
          | false ↦ λ e f. go e f
        ] refl h

    object_whole : (d : Data) (after : List Row) → object_read nodes seg.node above seg.keys d ≡ Ok after → AreWhole nodes at after
    object_whole null after h = no_rows after h
    object_whole (boolean b) after h = no_rows after h
    object_whole (number x) after h = no_rows after h
    object_whole (string s) after h = no_rows after h
    object_whole (array ds) after h = no_rows after h
    object_whole (object ms) after h =
        bare_or ms (outer_read nodes seg.node above seg.keys ms []) after h
        (λ some e.
        let stand = (outer_grown ms [] after (stand_none nodes at) e).stand in
        record {
          writable = record {
            place = place;
            in_order = stand.in_order;
            of_schema = stand.of_schema;
            within = stand.within;
            leaf = λ l. outer_own ms [] after (stand_none nodes at) some e (leaf_is_own kind (sym (ap (last_kind_is is_leaf_kind nodes) (last_node_append above seg)) ∙ l));
          };
          own = λ l. outer_own ms [] after (stand_none nodes at) some e (entry_is_own kind (sym (ap (last_kind_is is_entry_kind nodes) (last_node_append above seg)) ∙ l));
          entries = stand.entries;
        })

pub snoc : (s : Seg) (path : List Seg) → (above : List Seg) × (seg : Seg) × (s ∷ path ≡ above ++ seg ∷ [])
snoc s [] = ([], s, refl)
snoc s (t ∷ path) = let more = snoc t path in (s ∷ more.0, more.1, ap (λ (p : List Seg). s ∷ p) more.2)

top_under : (nodes : List SchemaNode) → Under nodes [] None [] []
top_under nodes = record {
  down = λ seg same segment. and_from _ _ (and_from _ _ same segment) refl;
  inside = refl;
  above = λ front rest e within entry. top_entry front rest e entry;
}
  where
    top_entry : (front rest : List Seg) → front ++ rest ≡ [] → ends_in_entry nodes front ≡ true → has_row front [] ≡ true
    top_entry [] rest e entry = let no : ⊥ = cc in absurd no
    top_entry (s ∷ front) rest e entry = let no : ⊥ = cc in absurd no

datastore_whole : (nodes : List SchemaNode) (d : Data) (after : List Row) → datastore_read nodes d ≡ Ok after → AreWhole nodes [] after
datastore_whole nodes null after h = let no : ⊥ = cc in absurd no
datastore_whole nodes (boolean b) after h = let no : ⊥ = cc in absurd no
datastore_whole nodes (number x) after h = let no : ⊥ = cc in absurd no
datastore_whole nodes (string s) after h = let no : ⊥ = cc in absurd no
datastore_whole nodes (array ds) after h = let no : ⊥ = cc in absurd no
datastore_whole nodes (object ms) after h =
    let stand = (members_grown nodes [] ms None [] [] after (top_under nodes) (stand_none nodes []) h).stand in
    record {
      writable = record { place = refl; in_order = stand.in_order; of_schema = stand.of_schema; within = stand.within; leaf = λ l. let no : ⊥ = cc in absurd no };
      own = λ l. let no : ⊥ = cc in absurd no;
      entries = stand.entries;
    }

-- what is read at a place is all that stands there
pub read_whole : (nodes : List SchemaNode) (at : List Seg) (d : Data) (rows : List Row) → is_place nodes at ≡ true → rows_read nodes at d ≡ Ok rows → AreWhole nodes at rows
read_whole nodes [] d rows place h = datastore_whole nodes d rows h
read_whole nodes (s ∷ path) d rows place h =
    let parts = snoc s path in
    let same : s ∷ path ≡ parts.0 ++ parts.1 ∷ [] = parts.2 in
    subst (λ (p : List Seg). AreWhole nodes p rows) (sym same)
    (object_whole nodes parts.0 parts.1 (subst (λ (p : List Seg). is_place nodes p ≡ true) same place) d rows
    (sym (rows_last nodes parts.0 parts.1 d) ∙ sym (ap (λ (p : List Seg). rows_read nodes p d) same) ∙ h))
