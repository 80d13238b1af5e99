use Rattle.std.proofs.Common.{sym, ◌∙◌}
use Rattle.yp_slot.proofs.Looks.{sets_aside, thaws}
use Rattle.yp_slot.proofs.Quiet.{frozen_thawed, still_thawed}
use Rattle.yp_slot.proofs.slot.Slot.freeze.Goals as goal

pub returns-in_ok-edits-clause-slot : goal.returns-in_ok-edits-clause-slot
returns-in_ok-edits-clause-slot g c = λ track stands.
    let present = c.args.present.now in
    let laws = c.absorbed_roots_are_those_of_the_window.ensures in
    sets_aside present.schema.now present.state.now c.args.self.now track (record { roots = laws.roots; record_is = laws.recorded }) stands
    c.freeze_now.new.self present.state.now.position present.state.now.stamp c.count.result _ c.count.ensures (sym c.freeze_now.ensures.answer ∙ c.if-freeze_now.true) c.freeze_now.ensures.state
    c.base-from.ensures c.position.ensures.count c.stamp.ensures.value c.in_ok-edits.ensures.changes (record { edits = c.in_ok-edits.ensures.sendable; tick = c.stamp.ensures.limit })

pub returns-else-freeze_now-clause-slot : goal.returns-else-freeze_now-clause-slot
returns-else-freeze_now-clause-slot g c = λ track stands.
    let present = c.args.present.now in
    let laws = c.absorbed_roots_are_those_of_the_window.ensures in
    thaws present.schema.now present.state.now c.args.self.now track (record { roots = laws.roots; record_is = laws.recorded }) stands
    c.freeze_now.new.self present.state.now.position present.state.now.stamp c.count.result c.count.ensures (sym c.freeze_now.ensures.answer ∙ c.if-freeze_now.false) c.freeze_now.ensures.state

pub returns-in_ok-edits-clause-thawed : goal.returns-in_ok-edits-clause-thawed
returns-in_ok-edits-clause-thawed g c = frozen_thawed c.args.self.now.feed c.freeze_now.new.self c.count.result _ c.freeze_now.ensures.state (sym c.freeze_now.ensures.answer ∙ c.if-freeze_now.true)

pub returns-else-freeze_now-clause-thawed : goal.returns-else-freeze_now-clause-thawed
returns-else-freeze_now-clause-thawed g c = still_thawed c.args.self.now.feed c.freeze_now.new.self c.count.result _ c.count.ensures c.freeze_now.ensures.state (sym c.freeze_now.ensures.answer ∙ c.if-freeze_now.false)
