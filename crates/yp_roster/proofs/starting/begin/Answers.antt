use Rattle.std.proofs.Common.{get_or, refl}
use Rattle.yp_roster.proofs.Begun.{begun_all, begun_none, begun_on}
use Rattle.yp_roster.proofs.starting.begin.Goals as goal

pub loop-receiver-init : goal.loop-receiver-init
loop-receiver-init c =
    let present = c.args.present.now in
    record {
      begun = λ m tracks moment live are. begun_none present.schema.now present.state.now m present.state.now.position c.args.terms.now c.args.mine.now tracks c.args.slots.now.items are;
      classes = λ are. are;
      numbers = λ number class there. there;
    }

pub loop-receiver-preserved : goal.loop-receiver-preserved
loop-receiver-preserved c =
    let present = c.args.present.now in
    record {
      begun = λ m tracks moment live are.
          let begun = c.loop-receiver.invariant.begun m tracks moment live are in
          begun_on present.schema.now present.state.now m present.state.now.position c.args.terms.now c.args.mine.now tracks c.loop-receiver.receiver-index c.loop-receiver.slots.items c.begin_one.new.slots.items (get_or c.args.mine.now c.loop-receiver.receiver-index 0) begun c.loop-receiver-test.true refl
          (c.in_ok-begin_one.ensures.slots m _ moment live begun.kept);
      classes = λ are. c.in_ok-begin_one.ensures.classes (c.loop-receiver.invariant.classes are);
      numbers = λ number class there. c.in_ok-begin_one.ensures.numbers number class (c.loop-receiver.invariant.numbers number class there);
    }

pub returns-clause-slots : goal.returns-clause-slots
returns-clause-slots c = λ m tracks moment live are.
    let present = c.args.present.now in
    begun_all present.schema.now present.state.now m present.state.now.position c.args.terms.now c.args.mine.now tracks c.loop-receiver.receiver-index c.loop-receiver.slots.items (c.loop-receiver.invariant.begun m tracks moment live are) c.loop-receiver-test.false
