use Rattle.std.proofs.Common.{List, sym, subst, refl}
use Rattle.yp_journal.specs.History.{JournalState}
use Rattle.yp_touch.specs.declared.root.Root.{Root}
use Rattle.yp_roster.specs.Passed.{AreStepsOf}
use Rattle.yp_roster.proofs.Patched.{classed_after, unmoved}
use Rattle.yp_slot.specs.ResultLaws.{when_ok}
use Rattle.yp_roster.proofs.patching.enter_patch.Goals as goal

pub steps_of-requires-clause-classes : goal.steps_of-requires-clause-classes
steps_of-requires-clause-classes g c =
    let laws = c.what_a_patch_makes_of_slots.ensures in
    (classed_after (record { patch = laws.patch; next = laws.next; unmoved = laws.unmoved }) c.args.entered.now c.requires.entered.0 c.requires.entered.1 c.args.classes.now c.args.slots.now.items c.args.slots.now.items refl c.requires.entered.2).fit

pub returns-then-touch_nothing-clause-slots : goal.returns-then-touch_nothing-clause-slots
returns-then-touch_nothing-clause-slots g c = λ before tracks by have are.
    let e = c.args.entered.now in
    let after : JournalState = e.present.state.now in
    let laws = c.what_a_patch_makes_of_slots.ensures in
    unmoved (record { patch = laws.patch; next = laws.next; unmoved = laws.unmoved }) e before by c.args.classes.now c.as_slice-list.result.now
    (subst (λ (list : List (List Root)). AreStepsOf e.present.schema.now before after c.args.classes.now list) (sym c.as_slice-list.ensures.value) (c.in_ok-those.ensures before by))
    (c.touch_nothing.ensures c.if-touch_nothing.true) c.args.slots.now.items tracks have are

pub join_all-requires : goal.join_all-requires
join_all-requires g c =
    let e = c.args.entered.now in
    let after : JournalState = e.present.state.now in
    let before : JournalState = c.requires.entered.0 in
    record {
      steps = (
        before,
        c.args.classes.now,
        subst (λ (list : List (List Root)). AreStepsOf e.present.schema.now before after c.args.classes.now list) (sym c.as_slice-list.ensures.value) (c.in_ok-those.ensures before c.requires.entered.1),
        c.requires.entered.2.each,
      );
    }

pub returns-clause-slots : goal.returns-clause-slots
returns-clause-slots g c = when_ok c.join_all.result c.join_all.ensures.entered (λ on. λ before tracks by have are.
    let e = c.args.entered.now in
    let after : JournalState = e.present.state.now in
    on before c.args.classes.now tracks by (subst (λ (list : List (List Root)). AreStepsOf e.present.schema.now before after c.args.classes.now list) (sym c.as_slice-list.ensures.value) (c.in_ok-those.ensures before by)) have are)
