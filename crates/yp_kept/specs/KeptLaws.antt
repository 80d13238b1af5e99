-- What follows of what a filter keeps, and of the selections by filters.
use Rattle.std.proofs.Common.{◌≡◌, List, [], ◌∷◌, ◌++◌, refl, ap, Bool, true, false, true≢false, sym, ◌∙◌, ◌&&◌, ◌||◌, cond, Option, None}
use Rattle.std.specs.Prelude.{nat_eq}
use Rattle.std.specs.List.{AllByRecursion}
use Rattle.std.proofs.lemmas.Bool.{and_from}
use Rattle.yp_base.specs.declared.path.Seg.{Seg}
use Rattle.yp_base.specs.declared.row.Row.{Row}
use Rattle.yp_base.specs.declared.row.Value.{Value}
use Rattle.yp_base.specs.Rows.{value_at, rows_within, AreInOrder}
use Rattle.yp_base.specs.RowLaws.{picked}
use Rattle.yp_schema.specs.declared.schema.SchemaNode.{SchemaNode}
use Rattle.yp_schema.specs.WellFormed.{is_empty}
use Rattle.yp_schema.specs.Datastore.{IsRowOf, IsDatastore, AreWritable}
use Rattle.yp_filter.specs.Filters.{Node, Nodes, select, compare, within, unknown, unknown_compare, none, more, Asked, all_rows, of_set}
use Rattle.yp_nacm.specs.Decision.{IsClosed, visible_rows}
use Rattle.yp_kept.specs.Concealed.{AllReadable}
use Rattle.yp_kept.specs.Matches.{all_hold}
use Rattle.yp_kept.specs.Selection.{only_matches, set_names, set_selects, enters, keeps_by, keeps, node_leads, set_leads, kept, selection}
use Rattle.yp_kept.specs.SelectionLaws.{value_selected, all_selected, selected_readable, selection_in_order, selection_within, selection_is, selection_of_schema, top_writable}

-- ---- what is kept is kept with each path above

-- where one test holds, the other does
abbrev pub Then : Bool → Bool → Type 0
Then a b = a ≡ true → b ≡ true

pub same_then : (a : Bool) → Then a a
same_then a h = h

pub or_then : (a b c d : Bool) → Then a b → Then c d → Then (a || c) (b || d)
or_then true b c d f g h = ap (λ x. x || d) (f refl)
or_then false true c d f g h = refl
or_then false false c d f g h = g h

pub and_then : (a b c d : Bool) → Then a b → Then c d → Then (a && c) (b && d)
and_then true b c d f g h = and_from b d (f refl) (g h)
and_then false b c d f g h = absurd (true≢false (sym h))

both_left : (a b : Bool) → (a && b) ≡ true → a ≡ true
both_left true b h = refl
both_left false b h = absurd (true≢false (sym h))

empty_then : (front rest : List Seg) → Then (is_empty (front ++ rest)) (is_empty front)
empty_then [] rest h = refl
empty_then (s ∷ front) rest h = h

module _ (nodes : List SchemaNode) (rows : List Row) where
  -- a set keeps nothing where a match node of it doesn't hold
  pub keeps_hold : (set : Nodes) (at rest : List Seg) (leads : Bool) → Then (keeps_by nodes rows set at rest leads) (all_hold nodes rows at set)
  keeps_hold set at [] leads h = h
  keeps_hold set at (seg ∷ rest) leads h =
      both_left (all_hold nodes rows at set) ((((is_empty rest && set_names nodes seg set) || only_matches set) || set_selects seg.node set) || leads) h

  by_some : (set : Nodes) (at : List Seg) (seg : Seg) (front rest : List Seg) (leads lead : Bool) → Then leads lead → Then (keeps_by nodes rows set at (seg ∷ (front ++ rest)) leads) (keeps_by nodes rows set at (seg ∷ front) lead)
  by_some set at seg front rest leads lead on =
      let names = set_names nodes seg set in
      let only = only_matches set in
      let selects = set_selects seg.node set in
      and_then (all_hold nodes rows at set) (all_hold nodes rows at set) (((is_empty (front ++ rest) && names) || only) || selects || leads) (((is_empty front && names) || only) || selects || lead) (same_then (all_hold nodes rows at set))
      (or_then (((is_empty (front ++ rest) && names) || only) || selects) (((is_empty front && names) || only) || selects) leads lead
      (or_then ((is_empty (front ++ rest) && names) || only) ((is_empty front && names) || only) selects selects
      (or_then (is_empty (front ++ rest) && names) (is_empty front && names) only only
      (and_then (is_empty (front ++ rest)) (is_empty front) names names (empty_then front rest) (same_then names)) (same_then only)) (same_then selects)) on)

  mutual
    node_front : (node : Node) (at : List Seg) (seg : Seg) (front rest : List Seg) → Then (node_leads nodes rows node at (seg ∷ (front ++ rest))) (node_leads nodes rows node at (seg ∷ front))
    node_front (select n) at seg front rest h = h
    node_front (compare n value) at seg front rest h = h
    node_front (within n set) at seg [] rest h =
        let deeper = at ++ seg ∷ [] in
        let gate = nat_eq seg.node n && enters nodes rows deeper n in
        and_then gate gate (keeps nodes rows set deeper rest) (keeps nodes rows set deeper []) (same_then gate) (keeps_hold set deeper rest (set_leads nodes rows set deeper rest)) h
    node_front (within n set) at seg (s ∷ front) rest h =
        let deeper = at ++ seg ∷ [] in
        let gate = nat_eq seg.node n && enters nodes rows deeper n in
        and_then gate gate (keeps nodes rows set deeper (s ∷ (front ++ rest))) (keeps nodes rows set deeper (s ∷ front)) (same_then gate)
        (by_some set deeper s front rest (set_leads nodes rows set deeper (s ∷ (front ++ rest))) (set_leads nodes rows set deeper (s ∷ front)) (set_front set deeper s front rest)) h
    node_front unknown at seg front rest h = h
    node_front unknown_compare at seg front rest h = h

    set_front : (set : Nodes) (at : List Seg) (seg : Seg) (front rest : List Seg) → Then (set_leads nodes rows set at (seg ∷ (front ++ rest))) (set_leads nodes rows set at (seg ∷ front))
    set_front none at seg front rest h = h
    set_front (more node set) at seg front rest h =
        or_then (node_leads nodes rows node at (seg ∷ (front ++ rest))) (node_leads nodes rows node at (seg ∷ front)) (set_leads nodes rows set at (seg ∷ (front ++ rest))) (set_leads nodes rows set at (seg ∷ front))
        (node_front node at seg front rest) (set_front set at seg front rest) h

-- what is kept is so with each path above
pub kept_above : (nodes : List SchemaNode) (asked : Asked) (rows : List Row) (above rest : List Seg) → kept nodes asked rows (above ++ rest) ≡ true → kept nodes asked rows above ≡ true
kept_above nodes all_rows rows above rest h = refl
kept_above nodes (of_set set) rows [] rest h = keeps_hold nodes rows set [] rest (set_leads nodes rows set [] rest) h
kept_above nodes (of_set set) rows (seg ∷ above) rest h =
    by_some nodes rows set [] seg above rest (set_leads nodes rows set [] (seg ∷ (above ++ rest))) (set_leads nodes rows set [] (seg ∷ above)) (set_front nodes rows set [] seg above rest) h

-- ---- selections

-- without a filter all rows are kept
pub all_kept : (nodes : List SchemaNode) (seen rows : List Row) → picked (kept nodes all_rows seen) rows ≡ rows
all_kept nodes seen [] = refl
all_kept nodes seen (row ∷ rows) = ap (λ xs. row ∷ xs) (all_kept nodes seen rows)

-- so the selection is what may be read
pub selection_of_all : (nodes : List SchemaNode) (readable : List Seg → Bool) (rows : List Row) → selection nodes all_rows readable rows ≡ visible_rows readable rows
selection_of_all nodes readable rows = all_kept nodes (visible_rows readable rows) (visible_rows readable rows)

module _ (nodes : List SchemaNode) (asked : Asked) (readable : List Seg → Bool) where
  twice : (one two : Bool) (value : Option Value) → cond one (cond two value None) None ≡ cond (two && one) value None
  twice true true value = refl
  twice true false value = refl
  twice false true value = refl
  twice false false value = refl

  -- the value at a path in a selection
  pub value_kept : (path : List Seg) (rows : List Row) → value_at path (selection nodes asked readable rows) ≡ cond (readable path && kept nodes asked (visible_rows readable rows) path) (value_at path rows) None
  value_kept path rows =
      let is = kept nodes asked (visible_rows readable rows) in
      value_selected is path (visible_rows readable rows)
      ∙ ap (λ (v : Option Value). cond (is path) v None) (value_selected readable path rows)
      ∙ twice (is path) (readable path) (value_at path rows)

  -- what is selected may be read
  pub kept_readable : (rows : List Row) → AllReadable readable (selection nodes asked readable rows)
  kept_readable rows =
      all_selected (kept nodes asked (visible_rows readable rows)) (λ row. readable row.path ≡ true) (visible_rows readable rows) (selected_readable readable rows)

  -- rows in order stay so
  pub kept_in_order : (rows : List Row) → AreInOrder rows → AreInOrder (selection nodes asked readable rows)
  kept_in_order rows order = selection_in_order (kept nodes asked (visible_rows readable rows)) (visible_rows readable rows) (selection_in_order readable rows order)

  -- and rows of the schema
  pub kept_of_schema : (rows : List Row) → AllByRecursion (IsRowOf nodes) rows → AllByRecursion (IsRowOf nodes) (selection nodes asked readable rows)
  kept_of_schema rows all = selection_of_schema nodes (kept nodes asked (visible_rows readable rows)) (visible_rows readable rows) (selection_of_schema nodes readable rows all)

  -- what is selected at or below a path is what is kept of the rows there that may be read
  pub kept_within : (path : List Seg) (rows : List Row) → picked (kept nodes asked (visible_rows readable rows)) (visible_rows readable (rows_within path rows)) ≡ rows_within path (selection nodes asked readable rows)
  kept_within path rows =
      let is = kept nodes asked (visible_rows readable rows) in
      ap (picked is) (selection_within readable path rows) ∙ selection_within is path (visible_rows readable rows)

  -- a selection of a datastore is a datastore
  pub kept_datastore : (rows : List Row) → IsClosed readable → IsDatastore nodes rows → IsDatastore nodes (selection nodes asked readable rows)
  kept_datastore rows closed datastore =
      let seen = visible_rows readable rows in
      selection_is nodes (kept nodes asked seen) seen (λ above rest h. kept_above nodes asked seen above rest h) (selection_is nodes readable rows closed datastore)

  -- a selection can be written at the top
  pub kept_writable : (rows : List Row) → AreInOrder rows → AllByRecursion (IsRowOf nodes) rows → AreWritable nodes [] (selection nodes asked readable rows)
  kept_writable rows order all = top_writable nodes (selection nodes asked readable rows) (kept_in_order rows order) (kept_of_schema rows all)
