use Rattle.std.proofs.Common.{◌∙◌, sym, ap, None}
use Rattle.yp_schema.specs.SchemaLaws.{node_after}
use Rattle.yp_filter.specs.Fits.{node_fits}
use Rattle.yp_filter.specs.View.{node_view}
use Rattle.yp_filter.specs.ViewLaws.{node_match}
use Rattle.yp_kept.proofs.Ways.{way_all, child_path}
use Rattle.yp_kept.proofs.keeping.node_holds.Goals as goal

pub match_holds-requires-clause-way : goal.match_holds-requires-clause-way
match_holds-requires-clause-way g c = way_all c.args.visible.now.schema.now c.args.at.now c.requires.way

pub match_holds-requires-clause-path : goal.match_holds-requires-clause-path
match_holds-requires-clause-path g c =
    let nodes = c.args.visible.now.schema.now in
    child_path nodes c.args.at.now c.in-Match.node c.in-Match.value c.requires.way
    (ap (node_fits nodes (node_after None c.args.at.now)) (sym (node_match c.in-Match.node c.in-Match.value)) ∙ ap (λ n. node_fits nodes (node_after None c.args.at.now) (node_view n)) (sym c.in-Match.is) ∙ c.requires.fits)
