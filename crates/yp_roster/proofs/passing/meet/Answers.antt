use Rattle.std.proofs.Common.{◌∙◌, arith}
use Rattle.yp_roster.proofs.Entered.{entered_all}
use Rattle.yp_roster.proofs.passing.meet.Goals as goal

pub meet_at-requires-clause-entered : goal.meet_at-requires-clause-entered
meet_at-requires-clause-entered c =
    let those = c.requires.entered in
    (those.0, those.1, (those.2.0, c.loop-place.invariant.entered those.0 those.2.0 those.1 those.2.1 those.2.2))

pub loop-place-preserved : goal.loop-place-preserved
loop-place-preserved c = record {
  count = c.meet_at.ensures.count ∙ c.loop-place.invariant.count;
  entered = λ before tracks leaves all are. c.in_ok-meet_at.ensures.entered before tracks leaves all (c.loop-place.invariant.entered before tracks leaves all are);
}

pub returns : goal.returns
returns c = λ before tracks leaves all are.
    entered_all c.args.entered.now before c.loop-place.place c.loop-place.slots.items tracks (c.loop-place.invariant.entered before tracks leaves all are) (omega (arith, c.loop-place.invariant.count, c.loop-place-test.false))
