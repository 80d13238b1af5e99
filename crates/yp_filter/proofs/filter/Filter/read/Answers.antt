use Rattle.std.proofs.Common.{ap, ◌∙◌, ◌≡◌, map, None, List}
use Rattle.serde_json.specs.View.{members_view}
use Rattle.yp_filter.specs.Filters.{Nodes}
use Rattle.yp_filter.specs.Fits.{set_fits}
use Rattle.yp_filter.specs.View.{node_view, set_view, nodes_of}
use Rattle.yp_filter.specs.declared.filter.FilterNode.{FilterNode}
use Rattle.yp_filter.specs.ViewLaws.{set_nodes}
use Rattle.yp_filter.proofs.Fitting.{read_set_fits}
use Rattle.yp_filter.proofs.filter.Filter.read.Goals as goal

-- the set that was read is of the schema
pub returns-else-not-is_small-clause-fits : goal.returns-else-not-is_small-clause-fits
returns-else-not-is_small-clause-fits c =
    let nodes = c.in_ok-nodes-in-Object.nodes.items in
    let says : set_view c.from_vec-set.result ≡ nodes_of (map node_view nodes) =
    set_nodes c.from_vec-set.result ∙ ap (λ (items : List FilterNode). nodes_of (map node_view items)) c.from_vec-set.ensures in
    ap (λ (set : Nodes). set_fits c.args.schema.now None set) says
    ∙ read_set_fits c.args.schema.now 15 (members_view c.in-Object.members.entries) (map node_view nodes) c.in_ok-nodes-in-Object.ensures
