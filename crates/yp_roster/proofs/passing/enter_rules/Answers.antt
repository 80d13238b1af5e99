use Rattle.std.proofs.Common.{List, subst, ◌∙◌, arith}
use Rattle.std.proofs.lemmas.List.{take_all}
use Rattle.yp_slot.specs.declared.slot.Slot.{Slot}
use Rattle.yp_roster.specs.Ordered.{AreClassesOf}
use Rattle.yp_roster.proofs.Entered.{entered_all}
use Rattle.yp_roster.proofs.passing.enter_rules.Goals as goal

pub enter_rules_at-requires-clause-entered : goal.enter_rules_at-requires-clause-entered
enter_rules_at-requires-clause-entered c =
    let those = c.requires in
    (those.0, those.1, (those.2.0, c.loop-place.invariant.entered those.0 those.2.0 those.1 those.2.1))

pub loop-place-preserved : goal.loop-place-preserved
loop-place-preserved c = record {
  count = c.enter_rules_at.ensures.count ∙ c.loop-place.invariant.count;
  entered = λ before tracks by are. c.in_ok-enter_rules_at.ensures.entered before tracks by (c.loop-place.invariant.entered before tracks by are);
  classed = c.in_ok-enter_rules_at.ensures.classed c.loop-place.invariant.classed;
}

pub returns-clause-slots : goal.returns-clause-slots
returns-clause-slots c = λ before tracks by are.
    entered_all c.args.entered.now before c.loop-place.place c.loop-place.slots.items tracks (c.loop-place.invariant.entered before tracks by are) (omega (arith, c.loop-place.invariant.count, c.loop-place-test.false))

pub returns-clause-classes : goal.returns-clause-classes
returns-clause-classes c =
    let present = c.args.entered.now.present in
    subst (λ (slots : List Slot). AreClassesOf present.schema.now present.state.now c.loop-place.classes.items slots) (take_all c.loop-place.place c.loop-place.slots.items (omega (arith, c.loop-place.invariant.count, c.loop-place-test.false))) c.loop-place.invariant.classed
