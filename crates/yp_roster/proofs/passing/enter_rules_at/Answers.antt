use Rattle.yp_roster.proofs.Classed.{classed_next}
use Rattle.yp_roster.proofs.Entered.{entered_on, slot_entered}
use Rattle.yp_slot.specs.ResultLaws.{when_all_ok, when_ok}
use Rattle.yp_roster.proofs.passing.enter_rules_at.Goals as goal

pub enter_rules-requires : goal.enter_rules-requires
enter_rules-requires c =
    let those = c.requires.entered in
    (those.0, those.1, slot_entered c.args.entered.now those.0 c.args.place c.args.slots.now.items those.2.0 c.index_mut.result.now those.2.1 c.requires.place c.index_mut.ensures.value)

pub returns-clause-entered : goal.returns-clause-entered
returns-clause-entered c = when_ok c.enter_rules.result c.enter_rules.ensures.slot (λ on. λ before tracks by are.
    entered_on c.args.entered.now before c.args.place c.args.slots.now.items tracks c.index_mut.result.now c.enter_rules.new.self are c.requires.place c.index_mut.ensures.value (on before by))

pub returns-clause-classed : goal.returns-clause-classed
returns-clause-classed c = when_all_ok c.enter_rules.result c.enter_rules.ensures.class c.enter_rules.ensures.numbers c.enter_rules.ensures.classes (λ has keep fit. λ are.
    let present = c.args.entered.now.present in
    classed_next present.schema.now present.state.now c.args.classes.now.items c.enter_rules.new.classes.items c.args.slots.now.items c.args.place c.enter_rules.new.self keep fit has c.requires.place are)
