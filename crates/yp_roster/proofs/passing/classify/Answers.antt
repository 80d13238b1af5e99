use Rattle.std.proofs.Common.{List, subst, ◌∙◌, arith}
use Rattle.std.proofs.lemmas.List.{take_all}
use Rattle.yp_slot.specs.declared.slot.Slot.{Slot}
use Rattle.yp_roster.specs.Ordered.{AreClassesOf}
use Rattle.yp_roster.proofs.passing.classify.Goals as goal

pub classify_at-requires-clause-slots : goal.classify_at-requires-clause-slots
classify_at-requires-clause-slots c = (c.requires.slots.0, c.loop-place.invariant.slots c.requires.slots.0 c.requires.slots.1)

pub loop-place-preserved : goal.loop-place-preserved
loop-place-preserved c = record {
  count = c.classify_at.ensures.count ∙ c.loop-place.invariant.count;
  slots = λ tracks are. c.in_ok-classify_at.ensures.slots tracks (c.loop-place.invariant.slots tracks are);
  classed = c.in_ok-classify_at.ensures.classed c.loop-place.invariant.classed;
}

pub returns-clause-classes : goal.returns-clause-classes
returns-clause-classes c =
    let present = c.args.present.now in
    subst (λ (slots : List Slot). AreClassesOf present.schema.now present.state.now c.loop-place.classes.items slots) (take_all c.loop-place.place c.loop-place.slots.items (omega (arith, c.loop-place.invariant.count, c.loop-place-test.false))) c.loop-place.invariant.classed
