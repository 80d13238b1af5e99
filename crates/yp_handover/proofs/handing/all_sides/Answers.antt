use Rattle.std.proofs.Common.{◌∷◌, ◌++◌, []}
use Rattle.yp_handover.specs.Handover.{AreSidesOf}
use Rattle.yp_handover.specs.ListLaws.{all_more, triples_pushed}
use Rattle.yp_handover.proofs.handing.all_sides.Goals as goal

pub loop-listener-preserved : goal.loop-listener-preserved
loop-listener-preserved c =
    let inv = c.loop-listener.invariant in
    let listener = c.in-Some.listener in
    record {
      done = inv.done ++ listener ∷ [];
      all = all_more inv.done listener _ _ _ c.in-Some.ensures.steps.0 inv.all;
      sides = λ workers less.
          triples_pushed (AreSidesOf c.args.receivers.now workers) inv.done c.loop-listener.outboxes.items c.loop-listener.takers.items listener c.in_ok-outbox.outbox c.in_ok-outbox.taker c.push.new.self.items c.push-in-loop-listener.new.self.items
          c.in_ok-push.ensures.items c.in_ok-push-2.ensures.items (inv.sides workers less) (c.in_ok-outbox.ensures workers less);
    }
