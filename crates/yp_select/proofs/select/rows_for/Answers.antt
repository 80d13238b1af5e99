use Rattle.std.proofs.Common.{◌≡◌, ◌≤◌, List, [], length, sym, ap, subst, ◌∙◌, None, arith}
use Rattle.std.specs.List.{AllByRecursion}
use Rattle.yp_base.specs.declared.path.Seg.{Seg}
use Rattle.yp_base.specs.declared.row.Row.{Row}
use Rattle.yp_base.specs.RowLaws.{picked}
use Rattle.yp_base.specs.Rows.{rows_within}
use Rattle.yp_schema.specs.declared.schema.SchemaNode.{SchemaNode}
use Rattle.yp_schema.specs.Datastore.{IsRowOf}
use Rattle.yp_filter.specs.declared.filter.Filter.{Filter}
use Rattle.yp_filter.specs.declared.filter.FilterSet.{FilterSet}
use Rattle.yp_filter.specs.Filters.{filter_size, of_set}
use Rattle.yp_filter.specs.Fits.{filter_fits}
use Rattle.yp_filter.specs.View.{set_view, filter_view}
use Rattle.yp_nacm.specs.Decision.{visible_rows}
use Rattle.yp_kept.specs.Selection.{kept}
use Rattle.yp_select.specs.Reaches.{own_reached, below_reached, is_reached}
use Rattle.yp_kept.specs.SelectionLaws.{all_selected, within_top}
use Rattle.yp_select.proofs.Selecting.{picked_few, reached_enough}
use Rattle.yp_select.proofs.Covering.{kept_covered, reached_few, stands_so}
use Rattle.yp_select.proofs.select.rows_for.Goals as goal

-- the rows at or below the top are all
all_are : (rows tree : List Row) (top : List Seg) → rows ≡ rows_within top tree → top ≡ [] → rows ≡ tree
all_are rows tree top found is = found ∙ ap (λ at. rows_within at tree) is ∙ within_top tree

-- the rows that are reached
reached_are : (nodes : List SchemaNode) (set : FilterSet) (rows tree : List Row) (own below : List (List Seg)) → rows ≡ picked (is_reached own below) tree → own ≡ own_reached nodes (set_view set) [] → below ≡ below_reached nodes (set_view set) []
    → rows ≡ picked (is_reached (own_reached nodes (set_view set) []) (below_reached nodes (set_view set) [])) tree
reached_are nodes set rows tree own below found owns belows = found ∙ (λ i. picked (is_reached (owns i) (belows i)) tree)

pub reaches_of-requires : goal.reaches_of-requires
reaches_of-requires g c =
    stands_so c.args.schema.now None (set_view c.in-Set.set) (ap (λ (filter : Filter). filter_fits c.args.schema.now (filter_view filter)) (sym c.in-Set.is) ∙ c.requires.fits)

pub returns-in_ok-all-in-All-clause-schema : goal.returns-in_ok-all-in-All-clause-schema
returns-in_ok-all-in-All-clause-schema g c =
    let is = all_are c.in_ok-all-in-All.all c.args.tree.now c.in_ok-top-in-All.top c.in_ok-all-in-All.ensures.rows c.in_ok-top-in-All.ensures in
    subst (λ (rows : List Row). AllByRecursion (IsRowOf c.args.schema.now) rows) (sym is) c.requires.schema

pub returns-in_ok-all-in-All-clause-few : goal.returns-in_ok-all-in-All-clause-few
returns-in_ok-all-in-All-clause-few g c =
    let is = all_are c.in_ok-all-in-All.all c.args.tree.now c.in_ok-top-in-All.top c.in_ok-all-in-All.ensures.rows c.in_ok-top-in-All.ensures in
    omega (arith, ap (λ rows. length rows) is)

pub returns-in_ok-all-in-All-clause-enough : goal.returns-in_ok-all-in-All-clause-enough
returns-in_ok-all-in-All-clause-enough g c = λ readable seen.
    let is = all_are c.in_ok-all-in-All.all c.args.tree.now c.in_ok-top-in-All.top c.in_ok-all-in-All.ensures.rows c.in_ok-top-in-All.ensures in
    ap (λ rows. picked (kept c.args.schema.now (filter_view c.args.filter.now) seen) (visible_rows readable rows)) is

pub returns-in_ok-all-in-All-clause-visits : goal.returns-in_ok-all-in-All-clause-visits
returns-in_ok-all-in-All-clause-visits g c =
    let is = all_are c.in_ok-all-in-All.all c.args.tree.now c.in_ok-top-in-All.top c.in_ok-all-in-All.ensures.rows c.in_ok-top-in-All.ensures in
    omega (arith, c.in_ok-all-in-All.ensures.visits, ap (λ rows. length rows) is)

pub returns-in_ok-reached-in-Set-clause-schema : goal.returns-in_ok-reached-in-Set-clause-schema
returns-in_ok-reached-in-Set-clause-schema g c =
    let nodes = c.args.schema.now in
    let set = c.in-Set.set in
    let reaches = c.in_ok-reaches-in-Set.reaches in
    let is = reached_are nodes set c.in_ok-reached-in-Set.reached c.args.tree.now reaches.own.items reaches.below.items c.in_ok-reached-in-Set.ensures.rows c.in_ok-reaches-in-Set.ensures.own c.in_ok-reaches-in-Set.ensures.below in
    subst (λ (rows : List Row). AllByRecursion (IsRowOf nodes) rows) (sym is)
    (all_selected (is_reached (own_reached nodes (set_view set) []) (below_reached nodes (set_view set) [])) (IsRowOf nodes) c.args.tree.now c.requires.schema)

pub returns-in_ok-reached-in-Set-clause-few : goal.returns-in_ok-reached-in-Set-clause-few
returns-in_ok-reached-in-Set-clause-few g c =
    let nodes = c.args.schema.now in
    let set = c.in-Set.set in
    let reaches = c.in_ok-reaches-in-Set.reaches in
    let is = reached_are nodes set c.in_ok-reached-in-Set.reached c.args.tree.now reaches.own.items reaches.below.items c.in_ok-reached-in-Set.ensures.rows c.in_ok-reaches-in-Set.ensures.own c.in_ok-reaches-in-Set.ensures.below in
    subst (λ (rows : List Row). length rows ≤ length c.args.tree.now) (sym is) (picked_few (is_reached (own_reached nodes (set_view set) []) (below_reached nodes (set_view set) [])) c.args.tree.now)

pub returns-in_ok-reached-in-Set-clause-enough : goal.returns-in_ok-reached-in-Set-clause-enough
returns-in_ok-reached-in-Set-clause-enough g c = λ readable seen.
    let nodes = c.args.schema.now in
    let set = c.in-Set.set in
    let reaches = c.in_ok-reaches-in-Set.reaches in
    let is = reached_are nodes set c.in_ok-reached-in-Set.reached c.args.tree.now reaches.own.items reaches.below.items c.in_ok-reached-in-Set.ensures.rows c.in_ok-reaches-in-Set.ensures.own c.in_ok-reaches-in-Set.ensures.below in
    let asked : filter_view c.args.filter.now ≡ of_set (set_view set) = ap filter_view c.in-Set.is in
    ap (λ rows. picked (kept nodes (filter_view c.args.filter.now) seen) (visible_rows readable rows)) is
    ∙ reached_enough nodes (kept nodes (filter_view c.args.filter.now) seen) (is_reached (own_reached nodes (set_view set) []) (below_reached nodes (set_view set) [])) readable c.args.tree.now c.requires.schema
    (λ path down keep. kept_covered nodes c.stands.ensures seen (set_view set) path down (ap (λ filter. kept nodes filter seen path) (sym asked) ∙ keep))

pub returns-in_ok-reached-in-Set-clause-visits : goal.returns-in_ok-reached-in-Set-clause-visits
returns-in_ok-reached-in-Set-clause-visits g c =
    let asked : filter_view c.args.filter.now ≡ of_set (set_view c.in-Set.set) = ap filter_view c.in-Set.is in
    omega (arith, c.in_ok-reached-in-Set.ensures.visits, ap (λ paths. length paths) c.in_ok-reaches-in-Set.ensures.own, ap (λ paths. length paths) c.in_ok-reaches-in-Set.ensures.below, ap filter_size asked, reached_few c.args.schema.now (set_view c.in-Set.set))
