use Rattle.std.proofs.Common.{◌∙◌, arith}
use Rattle.yp_roster.proofs.Classed.{same_members}
use Rattle.yp_roster.proofs.Entered.{entered_all}
use Rattle.yp_roster.proofs.patching.join_all.Goals as goal

pub join_at-requires-clause-steps : goal.join_at-requires-clause-steps
join_at-requires-clause-steps c =
    let those = c.requires.steps in
    (those.0, those.1, those.2, same_members those.0 those.1 c.args.slots.now.items c.loop-place.slots.items c.loop-place.invariant.members those.3)

pub loop-place-preserved : goal.loop-place-preserved
loop-place-preserved c = record {
  count = c.join_at.ensures.count ∙ c.loop-place.invariant.count;
  members = c.in_ok-join_at.ensures.members ∙ c.loop-place.invariant.members;
  entered = λ before classes tracks by are have slots. c.in_ok-join_at.ensures.entered before classes tracks by are (same_members before classes c.args.slots.now.items c.loop-place.slots.items c.loop-place.invariant.members have) (c.loop-place.invariant.entered before classes tracks by are have slots);
}

pub returns-clause-entered : goal.returns-clause-entered
returns-clause-entered c = λ before classes tracks by are have slots.
    entered_all c.args.entered.now before c.loop-place.place c.loop-place.slots.items tracks (c.loop-place.invariant.entered before classes tracks by are have slots) (omega (arith, c.loop-place.invariant.count, c.loop-place-test.false))
