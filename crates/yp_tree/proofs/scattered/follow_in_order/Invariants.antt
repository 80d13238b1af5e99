use Rattle.std.proofs.Common.{◌∷◌, take}
use Rattle.yp_tree.specs.Scattered.{AreOrdered}
use Rattle.yp_tree.proofs.Merging.{IsLastOf}
use Rattle.yp_tree.proofs.scattered.follow_in_order.Given as goal

abbrev pub invariant-loop-place : goal.invariant-loop-place
invariant-loop-place l = record {
  ordered : AreOrdered l.rows (l.first ∷ take l.place-index l.later);
  last : IsLastOf l.rows (l.first ∷ take l.place-index l.later) l.last;
}
