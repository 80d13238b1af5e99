use Rattle.std.proofs.Common.{◌≡◌, true}
use Rattle.yp_attempt.specs.Moments.{is_kept_by}
use Rattle.yp_attempt.specs.Tracks.{Track}
use Rattle.yp_slot.specs.ResultLaws.{when_ok}
use Rattle.yp_slot.specs.Steps.{act_said}
use Rattle.yp_roster.proofs.Entered.{entered_where, slot_entered}
use Rattle.yp_roster.proofs.passing.meet_at.Goals as goal

pub meet_act-requires-clause-entered : goal.meet_act-requires-clause-entered
meet_act-requires-clause-entered c =
    let those = c.requires.entered in
    (those.0, those.1, slot_entered c.args.entered.now those.0 c.args.place c.args.slots.now.items those.2.0 c.index_mut.result.now those.2.1 c.requires.place c.index_mut.ensures.value)

pub returns-clause-entered : goal.returns-clause-entered
returns-clause-entered c = when_ok c.meet_act.result c.meet_act.ensures.slot (λ on. λ before tracks leaves all are.
    entered_where c.args.entered.now before (λ (track : Track). is_kept_by (act_said c.args.act.now) track ≡ true) c.args.place c.args.slots.now.items tracks c.index_mut.result.now c.meet_act.new.self all are c.requires.place c.index_mut.ensures.value (on before leaves))
