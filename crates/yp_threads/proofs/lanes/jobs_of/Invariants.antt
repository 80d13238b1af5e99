use Rattle.std.proofs.Common.{◌≡◌, ◌++◌, List, length, map}
use Rattle.std.specs.Vec.Iter.{into_iter_items}
use Rattle.yp_journal.specs.declared.command.Command.{Command}
use Rattle.yp_log_share.specs.Seats.{Seat}
use Rattle.yp_threads.proofs.lanes.jobs_of.Given as goal

-- the seats and the lanes so far have their jobs, and as many of both are left
abbrev pub invariant-loop-seat : goal.invariant-loop-seat
invariant-loop-seat g l = record {
  sat : List Seat;
  given : List (List Command);
  all_sat : sat ++ into_iter_items l.seat-iterator ≡ l.fn.seats.items;
  all_given : given ++ into_iter_items l.lanes ≡ l.fn.lanes;
  left : length (into_iter_items l.seat-iterator) ≡ length (into_iter_items l.lanes);
  seats : map (λ job. job.seat) l.jobs.items ≡ sat;
  lanes : map (λ job. job.commands.items) l.jobs.items ≡ given;
}
