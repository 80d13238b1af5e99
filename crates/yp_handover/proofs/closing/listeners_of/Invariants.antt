use Rattle.std.proofs.Common.{◌≡◌, ◌++◌, List}
use Rattle.std.specs.Vec.Iter.{into_iter_items}
use Rattle.yp_followers.specs.declared.outbox.Outbox.{Outbox}
use Rattle.yp_takers.specs.declared.taker.TakerJob.{TakerJob}
use Rattle.yp_handover.specs.Handover.{HasHeardAll, IsOfOneQueue, Pairs, Triples}
use Rattle.yp_handover.proofs.closing.listeners_of.Given as goal

-- the outboxes so far have their listeners, and those that are left come after them, with their jobs
abbrev pub invariant-loop-outbox : goal.invariant-loop-outbox
invariant-loop-outbox g l = record {
  boxes : List Outbox;
  took : List TakerJob;
  all_boxes : boxes ++ into_iter_items l.outbox-iterator ≡ l.fn.outboxes.items;
  all_took : took ++ into_iter_items l.takers ≡ l.fn.takers.items;
  left : Pairs IsOfOneQueue (into_iter_items l.outbox-iterator) (into_iter_items l.takers);
  heard : Triples (HasHeardAll l.schema) boxes took l.listeners.items;
}
