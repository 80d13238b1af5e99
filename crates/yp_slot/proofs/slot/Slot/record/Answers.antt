use Rattle.std.proofs.Common.{ap, ◌∙◌}
use Rattle.yp_journal.specs.History.{JournalState, rules_at}
use Rattle.yp_attempt.specs.Tracks.{excluded_kinds}
use Rattle.yp_slot.specs.ResultLaws.{when_is_ok}
use Rattle.yp_slot.proofs.Standing.{record_made}
use Rattle.yp_slot.proofs.slot.Slot.record.Goals as goal

pub returns-clause-changes : goal.returns-clause-changes
returns-clause-changes g c = when_is_ok c.record.result c.record.ensures.changes (λ changes is.
    let state : JournalState = c.args.present.now.state.now in
    record_made c.args.present.now.schema.now state c.args.self.now c.excluded_kinds-excluded.result c.rules_of-rules.result.now c.tree.result.now changes is
    (c.excluded_kinds-excluded.ensures ∙ ap excluded_kinds c.trigger.ensures) (c.rules_of-rules.ensures ∙ ap (rules_at state) c.receiver.ensures) c.tree.ensures.rows)
