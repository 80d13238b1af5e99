use Rattle.yp_slot.specs.ResultLaws.{when_ok}
use Rattle.yp_slot.proofs.slot.Slot.enter_rules.Goals as goal

pub meet_rules-requires : goal.meet_rules-requires
meet_rules-requires c = (c.requires.0, c.requires.1, c.requires.2.1.kept)

pub classify-requires-clause-present : goal.classify-requires-clause-present
classify-requires-clause-present c = c.requires.1.entered.present

pub classify-requires-clause-kept : goal.classify-requires-clause-kept
classify-requires-clause-kept c = (c.meet_rules.ensures c.requires.0 c.requires.1 c.requires.2.0 c.requires.2.1).kept

pub returns-clause-slot : goal.returns-clause-slot
returns-clause-slot c = when_ok c.classify.result c.classify.ensures.slot (λ stays. λ before by track stands.
    let e = c.args.entered.now in
    stays _ (c.meet_rules.ensures before by track stands))
