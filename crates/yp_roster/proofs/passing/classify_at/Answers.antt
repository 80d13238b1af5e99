use Rattle.yp_slot.specs.ResultLaws.{when_all_ok, when_ok}
use Rattle.yp_roster.proofs.Classed.{classed_next}
use Rattle.yp_roster.proofs.Placing.{slot_at, slot_same}
use Rattle.yp_roster.proofs.passing.classify_at.Goals as goal

pub classify-requires-clause-kept : goal.classify-requires-clause-kept
classify-requires-clause-kept c =
    let present = c.args.present.now in
    (slot_at present.schema.now present.state.now c.args.place c.args.slots.now.items c.requires.slots.0 c.index_mut.result.now c.requires.slots.1 c.requires.place c.index_mut.ensures.value).1.kept

pub returns-clause-slots : goal.returns-clause-slots
returns-clause-slots c = when_ok c.classify.result c.classify.ensures.slot (λ on. λ tracks are.
    let present = c.args.present.now in
    slot_same present.schema.now present.state.now c.args.place c.args.slots.now.items tracks c.index_mut.result.now c.classify.new.self c.requires.place c.index_mut.ensures.value on are)

pub returns-clause-classed : goal.returns-clause-classed
returns-clause-classed c = when_all_ok c.classify.result c.classify.ensures.class c.classify.ensures.numbers c.classify.ensures.classes (λ has keep fit. λ are.
    let present = c.args.present.now in
    classed_next present.schema.now present.state.now c.args.classes.now.items c.classify.new.classes.items c.args.slots.now.items c.args.place c.classify.new.self keep fit has c.requires.place are)
