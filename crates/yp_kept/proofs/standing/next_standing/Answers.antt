use Rattle.std.proofs.Common.{◌∙◌, sym, ap, option_copied}
use Rattle.std.proofs.lemmas.Result.{IfOk-weaker}
use Rattle.yp_filter.specs.View.{set_view}
use Rattle.yp_nacm.specs.Decision.{visible_rows}
use Rattle.yp_kept.proofs.OnWay.{first_stands, next_stands, last_fits}
use Rattle.yp_kept.proofs.standing.next_standing.Goals as goal

pub standing_below-requires-clause-fits : goal.standing_below-requires-clause-fits
standing_below-requires-clause-fits g c =
    let nodes = c.args.visible.now.schema.now in
    last_fits nodes (visible_rows (g.R.Readable.may c.args.visible.now.readable.now nodes) c.args.visible.now.tree.now) (set_view c.args.set.now) c.args.path.now c.args.standings.now _ c.in-Some.above.now c.requires.fits c.requires.stand
    (sym c.last.ensures.value ∙ ap option_copied c.in-Some.is)

pub returns-in-None-clause-stands : goal.returns-in-None-clause-stands
returns-in-None-clause-stands g c =
    let nodes = c.args.visible.now.schema.now in
    IfOk-weaker c.standing_at_top.result _ _
    (λ next. first_stands nodes (visible_rows (g.R.Readable.may c.args.visible.now.readable.now nodes) c.args.visible.now.tree.now) (set_view c.args.set.now) c.args.path.now c.args.standings.now next (sym c.last.ensures.value ∙ ap option_copied c.in-None.is))
    c.standing_at_top.ensures.stands

pub returns-in-Some-clause-stands : goal.returns-in-Some-clause-stands
returns-in-Some-clause-stands g c =
    let nodes = c.args.visible.now.schema.now in
    IfOk-weaker c.standing_below.result _ _
    (λ next. next_stands nodes (visible_rows (g.R.Readable.may c.args.visible.now.readable.now nodes) c.args.visible.now.tree.now) (set_view c.args.set.now) c.args.path.now c.args.standings.now c.in-Some.above.now next c.requires.stand c.requires.short (sym c.last.ensures.value ∙ ap option_copied c.in-Some.is))
    c.standing_below.ensures.stands
