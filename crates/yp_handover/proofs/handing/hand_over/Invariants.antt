use Rattle.std.proofs.Common.{◌≡◌, ◌++◌, List, length, map}
use Rattle.std.specs.Prelude.{All}
use Rattle.std.specs.Vec.Iter.{into_iter_items}
use Rattle.yp_published.specs.Reads.{fresh_reading}
use Rattle.yp_crews.specs.declared.crew.Crew.{Crew}
use Rattle.yp_handover.specs.Handover.{AreJobsOf, Triples}
use Rattle.yp_handover.proofs.handing.hand_over.Given as goal

-- the crews so far have their jobs, those that are left come after them, and no reader got anything yet
abbrev pub invariant-loop-crew : goal.invariant-loop-crew
invariant-loop-crew g l = record {
  done : List Crew;
  all : done ++ into_iter_items l.crew-iterator ≡ l.fn.crews.items;
  jobs : Triples (AreJobsOf l.fn.receivers (length l.fn.crews.items)) done (map (λ job. record { reader = job.reader; worker = job.worker; boxes = job.outboxes.items; whole = job.whole }) l.followers.items) l.groups.items;
  fresh : All (λ reader. reader ≡ fresh_reading) l.readers.items;
}
