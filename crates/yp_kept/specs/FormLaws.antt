-- What a filter keeps it could keep by its form.
use Rattle.std.proofs.Common.{◌≡◌, List, [], ◌∷◌, ◌++◌, refl, sym, ◌∙◌, Bool, true, false, ap, ◌&&◌, ◌||◌, cond, Option, None}
use Rattle.std.specs.Prelude.{nat_eq}
use Rattle.std.proofs.lemmas.Bool.{and_parts}
use Rattle.yp_base.specs.declared.path.Seg.{Seg}
use Rattle.yp_base.specs.declared.row.Row.{Row}
use Rattle.yp_base.specs.declared.row.Value.{Value}
use Rattle.yp_base.specs.Rows.{value_at}
use Rattle.yp_schema.specs.declared.schema.SchemaNode.{SchemaNode}
use Rattle.yp_schema.specs.WellFormed.{is_empty}
use Rattle.yp_filter.specs.Filters.{Node, Nodes, select, compare, within, unknown, unknown_compare, none, more, Asked, all_rows, of_set}
use Rattle.yp_nacm.specs.Decision.{visible_rows}
use Rattle.yp_kept.specs.Matches.{all_hold}
use Rattle.yp_kept.specs.Selection.{only_matches, set_names, set_selects, enters, keeps_by, keeps, node_leads, set_leads, kept, selection}
use Rattle.yp_kept.specs.Form.{could_keep_by, could_keep, node_could_lead, set_could_lead, could_be_kept}
use Rattle.yp_kept.specs.KeptLaws.{Then, same_then, or_then, and_then, value_kept}

both_right : (a b : Bool) → Then (a && b) b
both_right a b h = (and_parts a b h).1

module _ (nodes : List SchemaNode) (rows : List Row) where
  by_form : (set : Nodes) (at rest : List Seg) (leads could : Bool) → Then leads could → Then (keeps_by nodes rows set at rest leads) (could_keep_by nodes set rest could)
  by_form set at [] leads could on h = refl
  by_form set at (seg ∷ segs) leads could on h =
      let here = ((is_empty segs && set_names nodes seg set) || only_matches set) || set_selects seg.node set in
      or_then here here leads could (same_then here) on (both_right (all_hold nodes rows at set) (here || leads) h)

  mutual
    node_form : (node : Node) (at rest : List Seg) → Then (node_leads nodes rows node at rest) (node_could_lead nodes node rest)
    node_form (select n) at rest h = h
    node_form (compare n value) at rest h = h
    node_form (within n set) at [] h = h
    node_form (within n set) at (seg ∷ segs) h =
        let deeper = at ++ seg ∷ [] in
        let names = nat_eq seg.node n in
        and_then (names && enters nodes rows deeper n) names (keeps nodes rows set deeper segs) (could_keep nodes set segs) (λ gate. (and_parts names (enters nodes rows deeper n) gate).0)
        (by_form set deeper segs (set_leads nodes rows set deeper segs) (set_could_lead nodes set segs) (set_form set deeper segs)) h
    node_form unknown at rest h = h
    node_form unknown_compare at rest h = h

    set_form : (set : Nodes) (at rest : List Seg) → Then (set_leads nodes rows set at rest) (set_could_lead nodes set rest)
    set_form none at rest h = h
    set_form (more node set) at rest h =
        or_then (node_leads nodes rows node at rest) (node_could_lead nodes node rest) (set_leads nodes rows set at rest) (set_could_lead nodes set rest) (node_form node at rest) (set_form set at rest) h

kept_form : (nodes : List SchemaNode) (asked : Asked) (rows : List Row) (path : List Seg) → Then (kept nodes asked rows path) (could_be_kept nodes asked path)
kept_form nodes all_rows rows path h = refl
kept_form nodes (of_set set) rows path h = by_form nodes rows set [] path (set_leads nodes rows set [] path) (set_could_lead nodes set path) (set_form nodes rows set [] path) h

none_then : (a b : Bool) → Then a b → b ≡ false → a ≡ false
none_then true b on out = sym (on refl) ∙ out
none_then false b on out = refl

-- what it couldn't keep it doesn't, whatever the rows are
pub not_kept : (nodes : List SchemaNode) (asked : Asked) (rows : List Row) (path : List Seg) → could_be_kept nodes asked path ≡ false → kept nodes asked rows path ≡ false
not_kept nodes asked rows path out = none_then (kept nodes asked rows path) (could_be_kept nodes asked path) (kept_form nodes asked rows path) out

-- so a selection has no row there
pub not_selected : (nodes : List SchemaNode) (asked : Asked) (readable : List Seg → Bool) (path : List Seg) (rows : List Row) → could_be_kept nodes asked path ≡ false → value_at path (selection nodes asked readable rows) ≡ None
not_selected nodes asked readable path rows out =
    value_kept nodes asked readable path rows
    ∙ ap (λ b. cond (readable path && b) (value_at path rows) None) (not_kept nodes asked (visible_rows readable rows) path out)
    ∙ gone (readable path) (value_at path rows)
  where
    gone : (a : Bool) (value : Option Value) → cond (a && false) value None ≡ None
    gone true value = refl
    gone false value = refl
