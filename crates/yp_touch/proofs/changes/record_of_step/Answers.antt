use Rattle.std.proofs.Common.{◌∙◌, ap, arith, List}
use Rattle.yp_filter.specs.View.{filter_view}
use Rattle.yp_kept.specs.Selection.{selection}
use Rattle.yp_kept.specs.KeptLaws.{kept_datastore, kept_in_order}
use Rattle.yp_touch.specs.declared.root.Root.{Root}
use Rattle.yp_touch.specs.Absorbed.{absorbed}
use Rattle.yp_touch.specs.Looked.{window_visits}
use Rattle.yp_touch.proofs.Windowed.{step_end, step_recorded}
use Rattle.yp_touch.proofs.changes.record_of_step.Goals as goal

pub record-requires-clause-paths : goal.record-requires-clause-paths
record-requires-clause-paths g c =
    let nodes = c.args.schema.now in
    let asked = filter_view c.args.filter.now in
    let may = g.R.Readable.may c.args.readable.now nodes in
    let one = selection nodes asked may c.args.before.now in
    let two = selection nodes asked may c.args.after.now in
    let roots = c.in_ok-absorb.ensures.roots ∙ ap (λ (roots : List Root). absorbed roots one two) c.new-touched.ensures in
    let closed = g.met.R.Readable.closed c.args.readable.now nodes in
    step_end nodes c.absorb.new.self one two (kept_datastore nodes asked may c.args.before.now closed c.requires.old) (kept_datastore nodes asked may c.args.after.now closed c.requires.new) roots

pub returns-clause-changes : goal.returns-clause-changes
returns-clause-changes g c =
    let nodes = c.args.schema.now in
    let asked = filter_view c.args.filter.now in
    let may = g.R.Readable.may c.args.readable.now nodes in
    let one = selection nodes asked may c.args.before.now in
    let two = selection nodes asked may c.args.after.now in
    let roots = c.in_ok-absorb.ensures.roots ∙ ap (λ (roots : List Root). absorbed roots one two) c.new-touched.ensures in
    c.in_ok-changes.ensures.changes ∙ step_recorded c.absorb.new.self one two (kept_in_order nodes asked may c.args.before.now c.requires.old.in_order) roots

pub returns-clause-visits : goal.returns-clause-visits
returns-clause-visits g c =
    let nodes = c.args.schema.now in
    let asked = filter_view c.args.filter.now in
    let may = g.R.Readable.may c.args.readable.now nodes in
    let one = selection nodes asked may c.args.before.now in
    let two = selection nodes asked may c.args.after.now in
    let roots = c.in_ok-absorb.ensures.roots ∙ ap (λ (roots : List Root). absorbed roots one two) c.new-touched.ensures in
    let most = ap (λ (roots : List Root). window_visits asked c.args.after.now roots) roots in
    omega (arith, most, c.in_ok-absorb.ensures.visits, c.in_ok-changes.ensures.visits)
