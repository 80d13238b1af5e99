-- What is read below a path stands there.
use Rattle.std.proofs.Common.{◌≡◌, ℕ, ◌<◌, length, List, [], ◌∷◌, ◌++◌, Bool, true, false, refl, sym, ap, subst, ◌∙◌, cond}
use Rattle.std.specs.Prelude.{Option, Some, None, is_some, Ok, Err, not, if◌then◌else◌}
use Rattle.std.proofs.lemmas.Bool.{and_from, lt-ltb}
use Rattle.yp_base.specs.PathLaws.{numbers_same, within_longer}
use Rattle.yp_base.specs.declared.atom.Atom.{Atom}
use Rattle.yp_base.specs.declared.path.Seg.{Seg}
use Rattle.yp_base.specs.declared.row.Value.{Value}
use Rattle.yp_base.specs.declared.row.Value.TheVariants.{Member, Present}
use Rattle.yp_base.specs.declared.row.Row.{Row}
use Rattle.yp_base.specs.Order.{is_within}
use Rattle.yp_base.specs.Rows.{put_row, value_at}
use Rattle.yp_schema.specs.declared.schema.SchemaNode.{SchemaNode}
use Rattle.yp_schema.specs.declared.schema.Kind.{Kind}
use Rattle.yp_schema.specs.declared.schema.Kind.TheVariants.{Container, Presence, List as Listing, Leaf, LeafList}
use Rattle.yp_base.specs.Paths.{same_number}
use Rattle.yp_schema.specs.Nodes.{node_at, child_of, is_key}
use Rattle.yp_schema.specs.Datastore.{keys_of_kind, is_segment, is_path_of, is_key_node, value_of_kind, is_entry_kind, last_kind_is, ends_in_entry, has_row, may_end}
use Rattle.serde_json.specs.Data.{Data, null, boolean, number, string, array, object, Items, no_items, item, Members, no_members, member}
use Rattle.yp_data_json.specs.declared.fault.DataFault.TheVariants.{UnknownElement, InvalidValue, RepeatedKey}
use Rattle.yp_schema.specs.Values.{typed_value, typed_atom}
use Rattle.yp_base.specs.Results.{◌>>=◌}
use Rattle.yp_data_json.specs.Reading.{valid, keys_in, below, row_at, leaf_read, entered, value_read, leaf_list_read, in_object, in_array, in_plain, plain_read, for_child, members_read, node_read, entries_read, entry_read}
use Rattle.yp_schema.specs.SchemaLaws.{path_down, row_led, last_is_segment, last_node_append}
use Rattle.yp_data_json.proofs.PutRows.{put_there}
use Rattle.yp_data_json.proofs.Growing.{Stand, Grown, Entered, grown_still, grown_on, cut, put_grown, path_more}
use Rattle.yp_data_json.proofs.Readings.{bound, ok_rows, given, value_typed, atom_typed, keys_typed, child_is}

-- a node with keys below a path, where rows may stand
pub record Spot (nodes : List SchemaNode) (at : List Seg) (n : ℕ) (path : List Seg) (keys : List Atom) (rows : List Row) : Type 0 where
  pub free : is_key_node nodes n ≡ false
  pub place : is_path_of nodes (below path n keys) ≡ true
  pub inside : is_within at (below path n keys) ≡ true
  pub above : Entered nodes at path rows

-- a node below a path with any keys that it asks for
abbrev pub Here : List SchemaNode → List Seg → ℕ → List Seg → List Row → Type 0
Here nodes at n path rows = (keys : List Atom) → keys_of_kind (node_at n nodes).kind nodes (node_at n nodes) keys ≡ true → Spot nodes at n path keys rows

-- the path of an object, whose members are children of `parent`
pub record Under (nodes : List SchemaNode) (at : List Seg) (parent : Option ℕ) (path : List Seg) (rows : List Row) : Type 0 where
  pub down : (seg : Seg) → same_number (node_at seg.node nodes).parent parent ≡ true → is_segment nodes seg ≡ true → is_path_of nodes (path ++ seg ∷ []) ≡ true
  pub inside : is_within at path ≡ true
  pub above : Entered nodes at path rows

pub spot_on : {nodes : List SchemaNode} {at : List Seg} {n : ℕ} {path : List Seg} {keys : List Atom} {before after : List Row} → Spot nodes at n path keys before → Grown nodes at before after → Spot nodes at n path keys after
spot_on spot grown = record { free = spot.free; place = spot.place; inside = spot.inside; above = λ front rest e within entry. grown.keep front (spot.above front rest e within entry) }

under_on : {nodes : List SchemaNode} {at : List Seg} {parent : Option ℕ} {path : List Seg} {before after : List Row} → Under nodes at parent path before → Grown nodes at before after → Under nodes at parent path after
under_on under grown = record { down = under.down; inside = under.inside; above = λ front rest e within entry. grown.keep front (under.above front rest e within entry) }

module _ (nodes : List SchemaNode) (at : List Seg) where
  spot_end : (n : ℕ) (path : List Seg) (keys : List Atom) (value : Value) (rows : List Row) → Spot nodes at n path keys rows → value_of_kind (node_at n nodes).kind (node_at n nodes).ty value ≡ true → may_end nodes (record { node = n; keys = keys }) value ≡ true
  spot_end n path keys value rows spot fit =
      and_from _ _ (last_is_segment nodes None path (record { node = n; keys = keys }) (path_down nodes (below path n keys) spot.place)) (and_from (not (is_key_node nodes n)) _ (ap not spot.free) fit)

  -- a value of the node's kind may be put there
  pub put_spot : (n : ℕ) (path : List Seg) (keys : List Atom) (value : Value) (rows : List Row) → Spot nodes at n path keys rows → Stand nodes at rows → value_of_kind (node_at n nodes).kind (node_at n nodes).ty value ≡ true →
      Grown nodes at rows (put_row (row_at (below path n keys) value) rows)
  put_spot n path keys value rows spot stand fit =
      put_grown nodes at path n keys value rows stand
      (record { goes = row_led nodes None path (record { node = n; keys = keys }) value (path_down nodes (below path n keys) spot.place) (spot_end n path keys value rows spot fit) })
      spot.inside spot.above

  ends : (n : ℕ) (path : List Seg) (keys : List Atom) (kind : Kind) → (node_at n nodes).kind ≡ kind → ends_in_entry nodes (below path n keys) ≡ is_entry_kind kind
  ends n path keys kind e = ap (last_kind_is is_entry_kind nodes) (last_node_append path (record { node = n; keys = keys })) ∙ ap is_entry_kind e

  -- below a spot whose own row is there, where it has one
  pub under_spot : (n : ℕ) (path : List Seg) (keys : List Atom) (rows : List Row) → Spot nodes at n path keys rows → (ends_in_entry nodes (below path n keys) ≡ true → has_row (below path n keys) rows ≡ true) →
      Under nodes at (Some n) (below path n keys) rows
  under_spot n path keys rows spot own = record {
    down = λ seg same segment. path_more nodes path (record { node = n; keys = keys }) seg spot.place same segment;
    inside = spot.inside;
    above = λ front rest e within entry.
        cut front rest path (record { node = n; keys = keys }) e
        (λ whole. subst (λ (p : List Seg). has_row p rows ≡ true) (sym whole) (own (subst (λ (p : List Seg). ends_in_entry nodes p ≡ true) whole entry)))
        (λ more part. spot.above front more part within entry);
  }

  -- a child that is no key
  here_under : (parent : Option ℕ) (path : List Seg) (rows : List Row) (n : ℕ) → Under nodes at parent path rows → n < length nodes → same_number (node_at n nodes).parent parent ≡ true → is_key n parent nodes ≡ false → Here nodes at n path rows
  here_under parent path rows n under low same free = λ keys fit. record {
    free = subst (λ (p : Option ℕ). is_key n p nodes ≡ false) (sym (numbers_same _ _ same)) free;
    place = under.down (record { node = n; keys = keys }) same (and_from _ _ (lt-ltb n (length nodes) low) fit);
    inside = within_longer at path (record { node = n; keys = keys } ∷ []) under.inside;
    above = under.above;
  }

  none_asked : (n : ℕ) (kind : Kind) → (node_at n nodes).kind ≡ kind → keys_of_kind kind nodes (node_at n nodes) [] ≡ true → keys_of_kind (node_at n nodes).kind nodes (node_at n nodes) [] ≡ true
  none_asked n kind e h = ap (λ k. keys_of_kind k nodes (node_at n nodes) []) e ∙ h

  held : (n : ℕ) (kind : Kind) (value : Value) → (node_at n nodes).kind ≡ kind → value_of_kind kind (node_at n nodes).ty value ≡ true → value_of_kind (node_at n nodes).kind (node_at n nodes).ty value ≡ true
  held n kind value e h = ap (λ k. value_of_kind k (node_at n nodes).ty value) e ∙ h

  leaf_grown : (n : ℕ) (path : List Seg) (d : Data) (rows after : List Row) → Spot nodes at n path [] rows → (node_at n nodes).kind ≡ Leaf → Stand nodes at rows → leaf_read nodes n path d rows ≡ Ok after → Grown nodes at rows after
  leaf_grown n path d rows after spot leaf stand h =
      bound (valid (typed_value (node_at n nodes).ty d)) (λ value. Ok (put_row (row_at (below path n []) value) rows)) after h
      (λ value e g. subst (λ (rs : List Row). Grown nodes at rows rs) (given _ after g)
      (put_spot n path [] value rows spot stand (held n Leaf value leaf (value_typed (node_at n nodes).ty d value e))))

  not_again : (t : Bool) (put after : List Row) → cond t (Err RepeatedKey) (ok_rows put) ≡ Ok after → put ≡ after
  not_again true put after h = let no : ⊥ = cc in absurd no
  not_again false put after h = given put after h

  pub entered_is : (path : List Seg) (value : Value) (rows after : List Row) → entered path value rows ≡ Ok after → put_row (row_at path value) rows ≡ after
  entered_is path value rows after h = not_again (is_some (value_at path rows)) (put_row (row_at path value) rows) after h

  pub entered_grown : (n : ℕ) (path : List Seg) (keys : List Atom) (value : Value) (rows after : List Row) → Spot nodes at n path keys rows → Stand nodes at rows → value_of_kind (node_at n nodes).kind (node_at n nodes).ty value ≡ true →
      entered (below path n keys) value rows ≡ Ok after → Grown nodes at rows after
  entered_grown n path keys value rows after spot stand fit h = subst (λ (rs : List Row). Grown nodes at rows rs) (entered_is (below path n keys) value rows after h) (put_spot n path keys value rows spot stand fit)

  pub entered_there : (path : List Seg) (value : Value) (rows after : List Row) → entered path value rows ≡ Ok after → has_row path after ≡ true
  entered_there path value rows after h = subst (λ (rs : List Row). has_row path rs ≡ true) (entered_is path value rows after h) (ap is_some (put_there path value rows))

  value_grown : (n : ℕ) (path : List Seg) (d : Data) (rows after : List Row) → Here nodes at n path rows → (node_at n nodes).kind ≡ LeafList → Stand nodes at rows → value_read nodes n path d rows ≡ Ok after → Grown nodes at rows after
  value_grown n path d rows after here kind stand h =
      bound (valid (typed_atom (node_at n nodes).ty d)) (λ atom. entered (below path n (atom ∷ [])) Member rows) after h
      (λ atom e g. entered_grown n path (atom ∷ []) Member rows after
      (here (atom ∷ []) (ap (λ k. keys_of_kind k nodes (node_at n nodes) (atom ∷ [])) kind ∙ atom_typed (node_at n nodes).ty d atom e))
      stand (held n LeafList Member kind refl) g)

  values_grown : (n : ℕ) (path : List Seg) (ds : Items) (rows after : List Row) → Here nodes at n path rows → (node_at n nodes).kind ≡ LeafList → Stand nodes at rows → leaf_list_read nodes n path ds rows ≡ Ok after → Grown nodes at rows after
  values_grown n path no_items rows after here kind stand h = subst (λ (rs : List Row). Grown nodes at rows rs) (given rows after h) (grown_still stand)
  values_grown n path (item d ds) rows after here kind stand h =
      bound (value_read nodes n path d rows) (λ mid. leaf_list_read nodes n path ds mid) after h
      (λ mid e g.
      let one = value_grown n path d rows mid here kind stand e in
      grown_on one (values_grown n path ds mid after (λ keys fit. spot_on (here keys fit) one) kind one.stand g))

  plain_grown : (n : ℕ) (path : List Seg) (d : Data) (rows after : List Row) → Here nodes at n path rows → Stand nodes at rows → plain_read nodes n path d rows ≡ Ok after → Grown nodes at rows after
  plain_grown n path d rows after here stand h =
      elim (node_at n nodes).kind as (λ k. (node_at n nodes).kind ≡ k → in_plain k (leaf_read nodes n path d rows) (Err InvalidValue) ≡ Ok after → Grown nodes at rows after) [
        | Container ↦ λ k e. let no : ⊥ = cc in absurd no
        | Presence ↦ λ k e. let no : ⊥ = cc in absurd no
        | Listing ↦ λ k e. let no : ⊥ = cc in absurd no
        | Leaf ↦ λ k e. leaf_grown n path d rows after (here [] (none_asked n Leaf k refl)) k stand e
        | LeafList ↦ λ k e. let no : ⊥ = cc in absurd no
      ] refl h

  mutual
    pub members_grown : (ms : Members) → (parent : Option ℕ) (path : List Seg) (rows after : List Row) → Under nodes at parent path rows → Stand nodes at rows → members_read nodes parent path ms rows ≡ Ok after → Grown nodes at rows after
    members_grown no_members parent path rows after under stand h = subst (λ (rs : List Row). Grown nodes at rows rs) (given rows after h) (grown_still stand)
    members_grown (member name d ms) parent path rows after under stand h =
        bound (for_child (child_of parent name nodes) (Err UnknownElement) (λ n. if is_key n parent nodes then Ok rows else node_read nodes n path d rows)) (λ mid. members_read nodes parent path ms mid) after h
        (λ mid e g.
        let one : Grown nodes at rows mid =
        elim (child_of parent name nodes) as (λ o. child_of parent name nodes ≡ o → for_child o (Err UnknownElement) (λ n. if is_key n parent nodes then Ok rows else node_read nodes n path d rows) ≡ Ok mid → Grown nodes at rows mid) [
          | None ↦ λ c f. let no : ⊥ = cc in absurd no
          | Some n ↦ λ c f.
              elim (is_key n parent nodes) as (λ t. is_key n parent nodes ≡ t → cond t (ok_rows rows) (node_read nodes n path d rows) ≡ Ok mid → Grown nodes at rows mid) [
                | true ↦ λ k i. subst (λ (rs : List Row). Grown nodes at rows rs) (given rows mid i) (grown_still stand)
                | false ↦ λ k i. child_is nodes parent name n c (λ low same. node_grown d n path rows mid (here_under parent path rows n under low same k) stand i)
              ] refl f
        ] refl e in
        grown_on one (members_grown ms parent path mid after (under_on under one) one.stand g))

    pub node_grown : (d : Data) → (n : ℕ) (path : List Seg) (rows after : List Row) → Here nodes at n path rows → Stand nodes at rows → node_read nodes n path d rows ≡ Ok after → Grown nodes at rows after
    node_grown null n path rows after here stand h = plain_grown n path null rows after here stand h
    node_grown (boolean b) n path rows after here stand h = plain_grown n path (boolean b) rows after here stand h
    node_grown (number x) n path rows after here stand h = plain_grown n path (number x) rows after here stand h
    node_grown (string s) n path rows after here stand h = plain_grown n path (string s) rows after here stand h
    node_grown (array ds) n path rows after here stand h =
        elim (node_at n nodes).kind as (λ k. (node_at n nodes).kind ≡ k → in_array k (entries_read nodes n path ds rows) (leaf_read nodes n path (array ds) rows) (leaf_list_read nodes n path ds rows) (Err InvalidValue) ≡ Ok after → Grown nodes at rows after) [
          | Container ↦ λ k e. let no : ⊥ = cc in absurd no
          | Presence ↦ λ k e. let no : ⊥ = cc in absurd no
          | Listing ↦ λ k e. entries_grown ds n path rows after here k stand e
          | Leaf ↦ λ k e. leaf_grown n path (array ds) rows after (here [] (none_asked n Leaf k refl)) k stand e
          | LeafList ↦ λ k e. values_grown n path ds rows after here k stand e
        ] refl h
    node_grown (object ms) n path rows after here stand h =
        elim (node_at n nodes).kind as (λ k. (node_at n nodes).kind ≡ k → in_object k (members_read nodes (Some n) (below path n []) ms rows) (members_read nodes (Some n) (below path n []) ms (put_row (row_at (below path n []) Present) rows)) (Err InvalidValue) ≡ Ok after → Grown nodes at rows after) [
          | Container ↦ λ k e.
              members_grown ms (Some n) (below path n []) rows after
              (under_spot n path [] rows (here [] (none_asked n Container k refl)) (λ entry. let no : ⊥ = cc (sym entry ∙ ends n path [] Container k) in absurd no))
              stand e
          | Presence ↦ λ k e.
              let spot = here [] (none_asked n Presence k refl) in
              let put = put_spot n path [] Present rows spot stand (held n Presence Present k refl) in
              grown_on put (members_grown ms (Some n) (below path n []) (put_row (row_at (below path n []) Present) rows) after
              (under_spot n path [] (put_row (row_at (below path n []) Present) rows) (spot_on spot put) (λ entry. ap is_some (put_there (below path n []) Present rows)))
              put.stand e)
          | Listing ↦ λ k e. let no : ⊥ = cc in absurd no
          | Leaf ↦ λ k e. let no : ⊥ = cc in absurd no
          | LeafList ↦ λ k e. let no : ⊥ = cc in absurd no
        ] refl h

    pub entries_grown : (ds : Items) → (n : ℕ) (path : List Seg) (rows after : List Row) → Here nodes at n path rows → (node_at n nodes).kind ≡ Listing → Stand nodes at rows → entries_read nodes n path ds rows ≡ Ok after → Grown nodes at rows after
    entries_grown no_items n path rows after here kind stand h = subst (λ (rs : List Row). Grown nodes at rows rs) (given rows after h) (grown_still stand)
    entries_grown (item d ds) n path rows after here kind stand h =
        bound (entry_read nodes n path d rows) (λ mid. entries_read nodes n path ds mid) after h
        (λ mid e g.
        let one = entry_grown d n path rows mid here kind stand e in
        grown_on one (entries_grown ds n path mid after (λ keys fit. spot_on (here keys fit) one) kind one.stand g))

    pub entry_grown : (d : Data) → (n : ℕ) (path : List Seg) (rows after : List Row) → Here nodes at n path rows → (node_at n nodes).kind ≡ Listing → Stand nodes at rows → entry_read nodes n path d rows ≡ Ok after → Grown nodes at rows after
    entry_grown null n path rows after here kind stand h = let no : ⊥ = cc in absurd no
    entry_grown (boolean b) n path rows after here kind stand h = let no : ⊥ = cc in absurd no
    entry_grown (number x) n path rows after here kind stand h = let no : ⊥ = cc in absurd no
    entry_grown (string s) n path rows after here kind stand h = let no : ⊥ = cc in absurd no
    entry_grown (array ds) n path rows after here kind stand h = let no : ⊥ = cc in absurd no
    entry_grown (object ms) n path rows after here kind stand h =
        bound (keys_in nodes (node_at n nodes).keys ms) (λ keys. entered (below path n keys) Present rows >>= λ mid. members_read nodes (Some n) (below path n keys) ms mid) after h
        (λ keys e g.
        bound (entered (below path n keys) Present rows) (λ mid. members_read nodes (Some n) (below path n keys) ms mid) after g
        (λ mid f i.
        let spot = here keys (ap (λ k. keys_of_kind k nodes (node_at n nodes) keys) kind ∙ keys_typed nodes (node_at n nodes).keys ms keys e) in
        let put = entered_grown n path keys Present rows mid spot stand (held n Listing Present kind refl) f in
        grown_on put (members_grown ms (Some n) (below path n keys) mid after
        (under_spot n path keys mid (spot_on spot put) (λ entry. entered_there (below path n keys) Present rows mid f))
        put.stand i)))
