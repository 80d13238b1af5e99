use Rattle.std.proofs.Common.{◌+◌, ◌∷◌, ◌++◌, [], List, length, take, sym, ap, subst, ◌∙◌}
use Rattle.std.proofs.lemmas.List.{take_all, take_more}
use Rattle.yp_journal.specs.History.{JournalState}
use Rattle.yp_touch.specs.declared.root.Root.{Root}
use Rattle.yp_slot.specs.declared.classes.Class.{Class}
use Rattle.yp_slot.specs.Classes.{IsClass}
use Rattle.yp_roster.specs.Passed.{AreStepsOf}
use Rattle.yp_roster.proofs.Classed.{one_looks_back, next_of, steps_more}
use Rattle.yp_roster.proofs.patching.steps_of.Goals as goal

pub step_of-requires-clause-class : goal.step_of-requires-clause-class
step_of-requires-clause-class g c =
    let present = c.args.entered.now.present in
    (next_of (IsClass present.schema.now (length present.state.now.receivers)) c.args.classes.now c.loop-class.class-index c.class-item.result c.loop-class-test.true c.class-item.is c.loop-class.invariant.left).0

pub step_of-requires-clause-tree : goal.step_of-requires-clause-tree
step_of-requires-clause-tree g c = λ on.
    let by = c.requires.entered.1 in
    c.requires.tree by.patch by.command (one_looks_back c.args.classes.now c.loop-class.class-index c.class-item.result c.loop-class-test.true c.class-item.is on)

pub loop-class-preserved : goal.loop-class-preserved
loop-class-preserved g c =
    let present = c.args.entered.now.present in
    let nodes = present.schema.now in
    let after : JournalState = present.state.now in
    let inv = c.loop-class.invariant in
    let classes = c.args.classes.now in
    let class = c.class-item.result in
    let i = c.loop-class.class-index in
    record {
      left = (next_of (IsClass nodes (length after.receivers)) classes i class c.loop-class-test.true c.class-item.is inv.left).1;
      steps = λ before by.
          subst (λ (steps : List (List Root)). AreStepsOf nodes before after (take (i + 1) classes) steps) (sym c.in_ok-push.ensures.items)
          (subst (λ (those : List Class). AreStepsOf nodes before after those (c.loop-class.those.items ++ c.in_ok-step_of.field-0 ∷ [])) (sym (take_more classes i class c.loop-class-test.true ∙ ap (λ (k : Class). take i classes ++ k ∷ []) (sym c.class-item.is)))
          (steps_more nodes before after (take i classes) c.loop-class.those.items class c.in_ok-step_of.field-0 (inv.steps before by) (c.in_ok-step_of.ensures before by)));
    }

pub returns : goal.returns
returns g c = λ before by.
    let present = c.args.entered.now.present in
    subst (λ (classes : List Class). AreStepsOf present.schema.now before present.state.now classes c.loop-class.those.items) (take_all c.loop-class.class-index c.args.classes.now c.loop-class-test.false) (c.loop-class.invariant.steps before by)
