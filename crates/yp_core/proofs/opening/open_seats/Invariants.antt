use Rattle.std.proofs.Common.{◌≡◌, ℕ, Some, length}
use Rattle.std.specs.List.{slice_get}
use Rattle.yp_core.specs.declared.seat.Seat.{Seat}
use Rattle.yp_core.specs.Worlds.{IsOpened}
use Rattle.yp_core.proofs.opening.open_seats.Given as goal

abbrev pub invariant-loop-worker : goal.invariant-loop-worker
invariant-loop-worker l = record {
  count : length l.seats.items ≡ l.worker;
  opened : (number : ℕ) (seat : Seat) → slice_get l.seats.items number ≡ Some seat → IsOpened l.schema l.start l.receivers l.workers number seat;
}
