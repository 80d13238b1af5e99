use Rattle.std.proofs.Common.{◌≡◌, ◌+◌, length}
use Rattle.yp_log_share.specs.Seats.{AreOfLanesFrom, count_calls}
use Rattle.yp_log_share.proofs.seat.seats.Given as goal

abbrev pub invariant-loop-lane : goal.invariant-loop-lane
invariant-loop-lane g l = record {
  count : length l.seats.items ≡ l.lane;
  order : AreOfLanesFrom 1 l.seats.items;
  none : count_calls l.seats.items ≡ 0;
  parts : l.share.parts + length l.seats.items ≡ l.lanes;
  amount : l.share.amount ≡ 0;
}
