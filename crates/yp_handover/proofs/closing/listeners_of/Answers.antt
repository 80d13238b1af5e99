use Rattle.std.proofs.Common.{◌∷◌, ◌++◌, [], List, subst, sym}
use Rattle.yp_listeners.specs.declared.listener.Listener.{Listener}
use Rattle.yp_handover.specs.Handover.{HasHeardAll, IsOfOneQueue, Triples}
use Rattle.yp_handover.specs.ListLaws.{all_more, pairs_cut, pairs_same, triples_snoc}
use Rattle.yp_handover.proofs.closing.listeners_of.Goals as goal

pub loop-outbox-init : goal.loop-outbox-init
loop-outbox-init g c =
    let boxes = c.into_iter-outbox-iterator.ensures.into_iter_gives.0 in
    let took = c.into_iter-takers.ensures.rest in
    record {
      boxes = [];
      took = [];
      all_boxes = boxes;
      all_took = took;
      left = pairs_same IsOfOneQueue _ _ _ _ boxes took c.requires;
      heard = subst (λ (listeners : List Listener). Triples (HasHeardAll c.args.schema.now) [] [] listeners) (sym c.in_ok-listeners.ensures.items) tt;
    }

pub loop-outbox-preserved : goal.loop-outbox-preserved
loop-outbox-preserved g c =
    let inv = c.loop-outbox.invariant in
    let outbox = c.in-Some.outbox in
    let taker = c.in-Some-next.taker in
    let box_cut = c.in-Some.ensures.steps.0 in
    let taker_cut = c.in-Some-next.ensures.items in
    record {
      boxes = inv.boxes ++ outbox ∷ [];
      took = inv.took ++ taker ∷ [];
      all_boxes = all_more inv.boxes outbox _ _ _ box_cut inv.all_boxes;
      all_took = all_more inv.took taker _ _ _ taker_cut inv.all_took;
      left = (pairs_cut IsOfOneQueue _ _ _ _ outbox taker box_cut taker_cut inv.left).1;
      heard = triples_snoc (HasHeardAll c.args.schema.now) inv.boxes inv.took c.loop-outbox.listeners.items outbox taker (c.in_ok-listener_of-in-Some-next).field-0 c.push.new.self.items c.in_ok-push-in-Some-next.ensures.items inv.heard (c.in_ok-listener_of-in-Some-next).ensures;
    }
