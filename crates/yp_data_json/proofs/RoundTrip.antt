-- What is written of all rows at a place is read again as these rows.
use Rattle.std.proofs.Common.{◌≡◌, ℕ, ◌<◌, List, [], ◌∷◌, ◌++◌, length, true, false, true≢false, Option, Some, None, is_some, refl, sym, ap, subst, ◌∙◌, cond, append-nil, ⊎_elim, Result, Ok, Err, nat_eq}
use Rattle.std.specs.Prelude.{if◌then◌else◌}
use Rattle.std.specs.List.{AllByRecursion}
use Rattle.std.specs.Cmp.Lexicographic.{pointwise}
use Rattle.std.proofs.lemmas.Bool.{and_parts, ltb-true}
use Rattle.std.proofs.lemmas.Slice.Eq.{bytes_eq-Decides, slice_eq-Decides}
use Rattle.yp_base.specs.declared.atom.Atom.{Atom}
use Rattle.yp_base.specs.declared.path.Seg.{Seg}
use Rattle.yp_base.specs.declared.row.Value.{Value}
use Rattle.yp_base.specs.declared.row.Value.TheVariants.{Member, Present}
use Rattle.yp_base.specs.declared.row.Row.{Row}
use Rattle.yp_base.specs.OrderLaws.{atoms_total}
use Rattle.yp_base.specs.Rows.{put_row, value_at, AreInOrder}
use Rattle.yp_base.specs.Exact.{order_decides, atoms_exact}
use Rattle.yp_base.specs.RowLaws.{rest_order}
use Rattle.yp_schema.specs.declared.schema.SchemaNode.{SchemaNode}
use Rattle.yp_schema.specs.declared.schema.Kind.{Kind}
use Rattle.yp_schema.specs.declared.schema.Kind.TheVariants.{Container, Presence, List as Listing, Leaf, LeafList}
use Rattle.yp_schema.specs.Nodes.{node_at, qualified_name, may_hold}
use Rattle.yp_schema.specs.WellFormed.{IsSchema}
use Rattle.yp_schema.specs.Datastore.{keys_of_kind, goes_down, goes_to_row, value_of_kind, IsRowOf, is_entry_kind, is_leaf_kind, last_kind_is, has_row, AreWhole}
use Rattle.serde_json.specs.Data.{object, Members}
use Rattle.yp_data_json.specs.declared.fault.DataFault.{DataFault}
use Rattle.yp_data_json.specs.declared.fault.DataFault.TheVariants.{UnknownElement, InvalidValue}
use Rattle.yp_base.specs.Results.{◌>>=◌}
use Rattle.yp_data_json.specs.Reading.{keys_in, below, row_at, entered, in_object, members_read, node_read}
use Rattle.yp_data_json.specs.AtPath.{are_keys, named_entry, named_value, array_of_one, by_kind, named_read, rows_read}
use Rattle.yp_data_json.specs.Forest.{forest_at}
use Rattle.yp_data_json.specs.Runs.{IsRest}
use Rattle.yp_data_json.specs.Writing.{leaf_data, one_key_data, with_keys, members_in, place_data, place_json, named_member, rows_json}
use Rattle.yp_data_json.proofs.AtPlace.{left_over, writable_below, json_at, place_segment}
use Rattle.yp_data_json.proofs.Places.{rows_last}
use Rattle.yp_data_json.proofs.Laying.{StandsUnder, forest_rows}
use Rattle.yp_data_json.proofs.Fits.{keys_stand}
use Rattle.yp_data_json.proofs.Again.{value_again, atom_again, keys_again, skip_keys, leaf_node, path_is, keys_path, read_again}
use Rattle.yp_schema.specs.SchemaLaws.{row_ends, end_kind, node_after_append, leaf_ends, last_node_append, present_is, empty_keys}
use Rattle.yp_data_json.proofs.Below.{rest_down}
use Rattle.yp_data_json.proofs.Steps.{own_row_adds}
use Rattle.yp_data_json.proofs.Under.{OwnFirst, under_or_own, none_under, own_value, entries_under, entries_rest}
use Rattle.yp_data_json.proofs.Whole.{EntriesBelow, whole_fits, member_is, one_is}
use Rattle.yp_data_json.proofs.Wholes.{snoc}

abbrev Reading : Type 0
Reading = Result (List Row) DataFault

abbrev ok : List Row → Reading
ok rows = Ok rows

pub keys_tie : (keys : List Atom) → are_keys keys keys ≡ true
keys_tie keys = (slice_eq-Decides (order_decides atoms_total atoms_exact) keys keys (are_keys keys keys) refl).1 refl

pub name_ties : (name : List ℕ) → pointwise nat_eq name name ≡ true
name_ties name = (bytes_eq-Decides name name).1 refl

module _ (nodes : List SchemaNode) (schema : IsSchema nodes) where
  -- rows under a place, behind those so far
  members_again : (at : List Seg) (parent : Option ℕ) (rows : List Row) → EntriesBelow nodes at rows → AreInOrder rows → AllByRecursion (IsRest nodes parent (length at)) rows → AllByRecursion (StandsUnder at) rows
      → (acc : List Row) → AreInOrder (acc ++ rows) → members_read nodes parent at (members_in nodes (forest_at (length at) rows)) acc ≡ Ok (acc ++ rows)
  members_again at parent rows entries order each under acc all =
      let same = forest_rows at rows order under in
      read_again nodes schema parent at (forest_at (length at) rows) (whole_fits nodes schema at parent rows entries order each under) acc (subst (λ (rs : List Row). AreInOrder (acc ++ rs)) (sym same) all)
      ∙ ap (λ (rs : List Row). ok (acc ++ rs)) same

  module _ (above : List Seg) (seg : Seg) where
    abbrev at : List Seg
    at = above ++ seg ∷ []

    abbrev kind : Kind
    kind = (node_at seg.node nodes).kind

    abbrev node : SchemaNode
    node = node_at seg.node nodes

    abbrev forest : List Row → Members
    forest rows = members_in nodes (forest_at (length at) rows)

    -- what the place's node is read as of these rows' JSON
    abbrev named : List Row → Reading
    named rows = named_read nodes seg.node above seg.keys (place_json nodes seg at rows) []

    named_at : (k : Kind) (rows : List Row) → kind ≡ k → named rows ≡ by_kind k
        (array_of_one (place_data nodes k node seg (value_at at rows) (forest rows)) (λ e. named_entry nodes seg.node above seg.keys e []))
        (array_of_one (place_data nodes k node seg (value_at at rows) (forest rows)) (λ e. named_value nodes seg.node above seg.keys e []))
        (node_read nodes seg.node above (place_data nodes k node seg (value_at at rows) (forest rows)) [])
    named_at k rows e = ap (λ j. by_kind j
        (array_of_one (place_data nodes j node seg (value_at at rows) (forest rows)) (λ e. named_entry nodes seg.node above seg.keys e []))
        (array_of_one (place_data nodes j node seg (value_at at rows) (forest rows)) (λ e. named_value nodes seg.node above seg.keys e []))
        (node_read nodes seg.node above (place_data nodes j node seg (value_at at rows) (forest rows)) [])) e

    object_at : (k : Kind) (ms : Members) → kind ≡ k
        → node_read nodes seg.node above (object ms) [] ≡ in_object k (members_read nodes (Some seg.node) (below above seg.node []) ms []) (members_read nodes (Some seg.node) (below above seg.node []) ms (row_at (below above seg.node []) Present ∷ [])) (Err InvalidValue)
    object_at k ms e = ap (λ j. in_object j (members_read nodes (Some seg.node) (below above seg.node []) ms []) (members_read nodes (Some seg.node) (below above seg.node []) ms (row_at (below above seg.node []) Present ∷ [])) (Err InvalidValue)) e

    module _ (low : seg.node < length nodes) (keys : keys_of_kind kind nodes node seg.keys ≡ true) where
      keys_at : (k : Kind) → kind ≡ k → keys_of_kind k nodes node seg.keys ≡ true
      keys_at k e = sym (ap (λ j. keys_of_kind j nodes node seg.keys) e) ∙ keys

      each_rest : (rows : List Row) → AreWhole nodes at rows → AllByRecursion (IsRest nodes (Some seg.node) (length at)) rows
      each_rest rows whole = subst (λ p. AllByRecursion (IsRest nodes p (length at)) rows) (node_after_append None above seg) (writable_below nodes at rows whole.writable).each

      -- ---- a container without presence has no row of its own

      container_again : (rows : List Row) → kind ≡ Container → AreWhole nodes at rows → AllByRecursion (StandsUnder at) rows → named rows ≡ Ok rows
      container_again rows e whole under =
          named_at Container rows e ∙ object_at Container (forest rows) e
          ∙ ap (λ p. members_read nodes (Some seg.node) p (forest rows) []) (path_is above seg (empty_keys seg.keys (keys_at Container e)))
          ∙ members_again at (Some seg.node) rows (entries_under nodes at rows whole.entries) whole.writable.in_order (each_rest rows whole) under [] whole.writable.in_order

      -- ---- the others have one

      module _ (value : Value) (rest : List Row) (whole : AreWhole nodes at (row_at at value ∷ rest)) (under : AllByRecursion (StandsUnder at) rest) where
        own_kind : value_of_kind kind node.ty value ≡ true
        own_kind = end_kind nodes seg value (row_ends nodes None above seg value whole.writable.of_schema.0.goes)

        value_is : (k : Kind) → kind ≡ k → value_of_kind k node.ty value ≡ true
        value_is k e = sym (ap (λ j. value_of_kind j node.ty value) e) ∙ own_kind

        own_forest : forest (row_at at value ∷ rest) ≡ forest rest
        own_forest = ap (members_in nodes) (own_row_adds (length at) (row_at at value) rest (left_over at at [] (sym (append-nil at))))

        rest_again : members_read nodes (Some seg.node) at (forest (row_at at value ∷ rest)) (row_at at value ∷ []) ≡ Ok (row_at at value ∷ rest)
        rest_again =
            ap (λ ms. members_read nodes (Some seg.node) at ms (row_at at value ∷ [])) own_forest
            ∙ members_again at (Some seg.node) rest (entries_rest nodes at value rest whole.entries) (rest_order (row_at at value) rest whole.writable.in_order) (each_rest (row_at at value ∷ rest) whole).1 under (row_at at value ∷ []) whole.writable.in_order

        presence_again : kind ≡ Presence → named (row_at at value ∷ rest) ≡ Ok (row_at at value ∷ rest)
        presence_again e =
            let present = present_is value (value_is Presence e) in
            named_at Presence (row_at at value ∷ rest) e ∙ object_at Presence (forest (row_at at value ∷ rest)) e
            ∙ ap (λ p. members_read nodes (Some seg.node) p (forest (row_at at value ∷ rest)) (row_at p Present ∷ [])) (path_is above seg (empty_keys seg.keys (keys_at Presence e)))
            ∙ ap (λ v. members_read nodes (Some seg.node) at (forest (row_at at value ∷ rest)) (row_at at v ∷ [])) (sym present)
            ∙ rest_again

        list_again : kind ≡ Listing → named (row_at at value ∷ rest) ≡ Ok (row_at at value ∷ rest)
        list_again e =
            let present = present_is value (value_is Listing e) in
            let stand = keys_stand nodes schema seg.node low e in
            let entry = with_keys nodes node.keys seg.keys (forest (row_at at value ∷ rest)) in
            let found : keys_in nodes node.keys entry ≡ Ok seg.keys = keys_again nodes schema seg.node node.keys seg.keys (forest (row_at at value ∷ rest)) stand (keys_at Listing e) in
            named_at Listing (row_at at value ∷ rest) e
            ∙ ap (λ (r : Result (List Atom) DataFault). r >>= λ ks. (if are_keys ks seg.keys then entered (below above seg.node ks) Present [] else Err InvalidValue) >>= λ after. members_read nodes (Some seg.node) (below above seg.node ks) entry after) found
            ∙ ap (λ b. (cond b (ok (row_at at Present ∷ [])) (Err InvalidValue)) >>= λ after. members_read nodes (Some seg.node) at entry after) (keys_tie seg.keys)
            ∙ skip_keys nodes seg.node at node.keys seg.keys (forest (row_at at value ∷ rest)) (row_at at Present ∷ []) stand
            ∙ ap (λ v. members_read nodes (Some seg.node) at (forest (row_at at value ∷ rest)) (row_at at v ∷ [])) (sym present)
            ∙ rest_again

        -- nothing stands under a leaf
        alone : may_hold kind ≡ false → rest ≡ []
        alone none = go rest (each_rest (row_at at value ∷ rest) whole).1 under
          where
            go : (rows : List Row) → AllByRecursion (IsRest nodes (Some seg.node) (length at)) rows → AllByRecursion (StandsUnder at) rows → rows ≡ []
            go [] each stand = refl
            go (row ∷ rows) each stand =
                let down = subst (λ p. goes_down nodes (Some seg.node) p ≡ true) (left_over at row.path (stand.0.0 ∷ stand.0.1) stand.0.2) (rest_down nodes (Some seg.node) (length at) row each.0) in
                let no : stand.0.0 ∷ stand.0.1 ≡ [] = leaf_ends nodes schema seg.node (stand.0.0 ∷ stand.0.1) none down in
                cc

        only : may_hold kind ≡ false → ok (row_at at value ∷ []) ≡ ok (row_at at value ∷ rest)
        only none = ap (λ (rs : List Row). ok (row_at at value ∷ rs)) (sym (alone none))

        leaf_again : kind ≡ Leaf → named (row_at at value ∷ rest) ≡ Ok (row_at at value ∷ rest)
        leaf_again e =
            let d = leaf_data node.ty (Some value) in
            named_at Leaf (row_at at value ∷ rest) e
            ∙ ap (λ o. node_read nodes seg.node above (leaf_data node.ty o) []) (own_value at value rest)
            ∙ leaf_node node.ty nodes seg.node above value [] e
            ∙ ap (λ (r : Result Value DataFault). r >>= λ v. ok (put_row (row_at (below above seg.node []) v) [])) (value_again nodes schema seg.node value low (value_is Leaf e))
            ∙ ap (λ p. ok (row_at p value ∷ [])) (path_is above seg (empty_keys seg.keys (keys_at Leaf e)))
            ∙ only (ap may_hold e)

        leaf_list_again : kind ≡ LeafList → named (row_at at value ∷ rest) ≡ Ok (row_at at value ∷ rest)
        leaf_list_again e =
            let is_member = member_is value (value_is LeafList e) in
            let one = one_is node.ty seg.keys (keys_at LeafList e) in
            let atom = one.0 in
            named_at LeafList (row_at at value ∷ rest) e
            ∙ ap (λ ks. named_value nodes seg.node above seg.keys (one_key_data node.ty ks) []) one.1.0
            ∙ ap (λ (r : Result Atom DataFault). r >>= λ a. if are_keys (a ∷ []) seg.keys then entered (below above seg.node (a ∷ [])) Member [] else Err InvalidValue) (atom_again nodes schema seg.node atom low one.1.1)
            ∙ ap (λ b. cond b (ok (row_at (below above seg.node (atom ∷ [])) Member ∷ [])) (Err InvalidValue)) (ap (are_keys (atom ∷ [])) one.1.0 ∙ keys_tie (atom ∷ []))
            ∙ ap (λ p. ok (row_at p Member ∷ [])) (keys_path above seg atom one.1.0)
            ∙ ap (λ v. ok (row_at at v ∷ [])) (sym is_member)
            ∙ only (ap may_hold e)

      -- ---- by the kind

      own_case : (rows : List Row) → AreWhole nodes at rows → (own : OwnFirst at rows) → named rows ≡ Ok rows
      own_case rows whole (value, rest, is, under) =
          let here = subst (λ (rs : List Row). AreWhole nodes at rs) is whole in
          subst (λ (rs : List Row). named rs ≡ Ok rs) (sym is)
          (elim kind as (λ k. kind ≡ k → named (row_at at value ∷ rest) ≡ Ok (row_at at value ∷ rest)) [
            | Container ↦ λ e. absurd (true≢false (sym (value_is value rest here under Container e)))
            | Presence ↦ λ e. presence_again value rest here under e
            | Listing ↦ λ e. list_again value rest here under e
            | Leaf ↦ λ e. leaf_again value rest here under e
            | LeafList ↦ λ e. leaf_list_again value rest here under e
          ] refl)

      -- no row of its own, where the place asks for one
      lost : {A : Type 0} (rows : List Row) → AllByRecursion (StandsUnder at) rows → has_row at rows ≡ true → A
      lost rows under there = absurd (true≢false (sym there ∙ ap is_some (none_under at rows under)))

      under_case : (rows : List Row) → AreWhole nodes at rows → AllByRecursion (StandsUnder at) rows → named rows ≡ Ok rows
      under_case rows whole under =
          elim kind as (λ k. kind ≡ k → named rows ≡ Ok rows) [
            | Container ↦ λ e. container_again rows e whole under
            | Presence ↦ λ e. lost rows under (whole.own (ap (last_kind_is is_entry_kind nodes) (last_node_append above seg) ∙ ap is_entry_kind e))
            | Listing ↦ λ e. lost rows under (whole.own (ap (last_kind_is is_entry_kind nodes) (last_node_append above seg) ∙ ap is_entry_kind e))
            | Leaf ↦ λ e. lost rows under (whole.writable.leaf (ap (last_kind_is is_leaf_kind nodes) (last_node_append above seg) ∙ ap is_leaf_kind e))
            | LeafList ↦ λ e. lost rows under (whole.writable.leaf (ap (last_kind_is is_leaf_kind nodes) (last_node_append above seg) ∙ ap is_leaf_kind e))
          ] refl

      named_again : (rows : List Row) → AreWhole nodes at rows → named rows ≡ Ok rows
      named_again rows whole = ⊎_elim (under_case rows whole) (own_case rows whole) (under_or_own at rows whole.writable.in_order whole.writable.within)

    place_again : (rows : List Row) → AreWhole nodes at rows → rows_read nodes at (rows_json nodes at rows) ≡ Ok rows
    place_again rows whole =
        let segment = place_segment nodes at above seg refl whole.writable.place in
        let parts = and_parts _ _ segment in
        ap (rows_read nodes at) (json_at nodes at above seg rows refl)
        ∙ rows_last nodes above seg (named_member nodes seg (place_json nodes seg at rows))
        ∙ ap (λ b. (cond b (named rows) (Err UnknownElement)) >>= λ after. ok after) (name_ties (qualified_name node))
        ∙ ap (λ (r : Reading). r >>= λ after. ok after) (named_again (ltb-true seg.node (length nodes) parts.0) parts.1 rows whole)

  -- ---- the top

  top_under : (rows : List Row) → AllByRecursion (IsRowOf nodes) rows → AllByRecursion (StandsUnder []) rows
  top_under [] all = tt
  top_under (row ∷ rows) all = (top_row row.path row refl all.0, top_under rows all.1)
    where
      top_row : (path : List Seg) (row : Row) → row.path ≡ path → IsRowOf nodes row → StandsUnder [] row
      top_row [] row is of = absurd (true≢false (sym (subst (λ p. goes_to_row nodes None p row.value ≡ true) is of.goes)))
      top_row (seg ∷ path) row is of = (seg, path, is)

  top_again : (rows : List Row) → AreWhole nodes [] rows → rows_read nodes [] (rows_json nodes [] rows) ≡ Ok rows
  top_again rows whole =
      members_again [] None rows (entries_under nodes [] rows whole.entries) whole.writable.in_order (writable_below nodes [] rows whole.writable).each (top_under rows whole.writable.of_schema) [] whole.writable.in_order

pub written_again : (nodes : List SchemaNode) (at : List Seg) (rows : List Row) → IsSchema nodes → AreWhole nodes at rows → rows_read nodes at (rows_json nodes at rows) ≡ Ok rows
written_again nodes [] rows schema whole = top_again nodes schema rows whole
written_again nodes (s ∷ path) rows schema whole =
    let parts = snoc s path in
    subst (λ (p : List Seg). rows_read nodes p (rows_json nodes p rows) ≡ Ok rows) (sym parts.2) (place_again nodes schema parts.0 parts.1 rows (subst (λ (p : List Seg). AreWhole nodes p rows) parts.2 whole))
