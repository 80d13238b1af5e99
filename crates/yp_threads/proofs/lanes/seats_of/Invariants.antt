use Rattle.std.proofs.Common.{◌≡◌, ◌++◌, Bool, true, List, map}
use Rattle.std.specs.List.{AllByRecursion}
use Rattle.std.specs.Vec.Iter.{into_iter_items}
use Rattle.yp_threads.proofs.lanes.seats_of.Given as goal

-- the seats so far were taken out of their jobs, which are whole, and the jobs that are left come after them
abbrev pub invariant-loop-job : goal.invariant-loop-job
invariant-loop-job g l = record {
  seats : l.seats.items ++ map (λ job. job.seat) (into_iter_items l.job-iterator) ≡ map (λ job. job.seat) l.fn.jobs.items;
  done : List Bool;
  marks : done ++ map (λ job. job.whole) (into_iter_items l.job-iterator) ≡ map (λ job. job.whole) l.fn.jobs.items;
  whole : AllByRecursion (λ (mark : Bool). mark ≡ true) done;
}
