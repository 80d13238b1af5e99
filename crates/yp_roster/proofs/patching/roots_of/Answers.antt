use Rattle.yp_filter.specs.View.{filter_view}
use Rattle.yp_journal.specs.History.{JournalState}
use Rattle.yp_roster.proofs.Patched.{step_made}
use Rattle.yp_roster.proofs.patching.roots_of.Goals as goal

pub returns : goal.returns
returns g c = λ found by rows.
    let present = c.args.entered.now.present in
    let after : JournalState = present.state.now in
    let class = c.args.class.now in
    step_made present.schema.now found after (filter_view class.filter) class.first c.rules_of-rules.result.now c.new-step.result c.absorb.new.self c.args.before.now c.tree.result.now
    c.in_ok-absorb.ensures.roots c.new-step.ensures c.rules_of-rules.ensures rows c.tree.ensures.rows
