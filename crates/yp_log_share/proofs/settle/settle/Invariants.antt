use Rattle.std.proofs.Common.{◌≡◌, ◌+◌, ◌≤◌, ◌++◌, length}
use Rattle.std.specs.Prelude.{vec_capacity}
use Rattle.std.specs.Vec.Iter.{into_iter_items}
use Rattle.yp_log_share.specs.Seats.{count_calls}
use Rattle.yp_log_share.proofs.Seats.{AreStanding}
use Rattle.yp_log_share.proofs.settle.settle.Given as goal

-- the seats that were taken apart and those that are left are all
abbrev pub invariant-loop-seat : goal.invariant-loop-seat
invariant-loop-seat g l = record {
  calls : l.lanes.items ++ into_iter_items l.seat-iterator ≡ l.fn.seats.items;
  stand : AreStanding (g.J.Naming.opening.position + 1) l.front.entries l.lanes.items;
  parts : l.share.parts ≡ length l.lanes.items;
  amount : l.share.amount ≡ count_calls l.lanes.items;
  room : length l.fn.seats.items ≤ vec_capacity l.lanes;
}
