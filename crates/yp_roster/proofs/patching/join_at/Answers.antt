use Rattle.yp_roster.proofs.Classed.{members_put}
use Rattle.yp_roster.proofs.Patched.{joined_on, step_within}
use Rattle.yp_slot.specs.ResultLaws.{when_ok}
use Rattle.yp_roster.proofs.patching.join_at.Goals as goal

pub step_at-step-requires : goal.step_at-step-requires
step_at-step-requires c =
    let e = c.args.entered.now in
    let those = c.requires.steps in
    step_within e.present.schema.now those.0 e.present.state.now those.1 c.args.steps.now c.args.slots.now.items c.args.place c.index_mut-slot.result.now those.2 those.3 c.requires.place c.index_mut-slot.ensures.value

pub returns-clause-members : goal.returns-clause-members
returns-clause-members c = when_ok c.join.result c.join.ensures.member (λ same. members_put c.args.slots.now.items c.args.place c.index_mut-slot.result.now c.join.new.self c.requires.place c.index_mut-slot.ensures.value same)

pub returns-clause-entered : goal.returns-clause-entered
returns-clause-entered c = when_ok c.join.result c.join.ensures.slot (λ joins. λ before classes tracks by are have entered.
    let e = c.args.entered.now in
    let laws = c.what_a_patch_makes_of_slots.ensures in
    let nodes = e.present.schema.now in
    let patch = laws.patch e before by in
    joined_on (record { patch = laws.patch; next = laws.next; unmoved = laws.unmoved }) e before by classes c.args.steps.now c.step_at-step.result.now c.args.place c.args.slots.now.items tracks c.index_mut-slot.result.now c.join.new.self are have c.requires.place c.index_mut-slot.ensures.value c.step_at-step.ensures
    (λ class shares is track stands. joins nodes before e.present.state.now e.changed.now class patch by.entered.present.datastore shares is track stands) entered)
