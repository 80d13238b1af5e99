use Rattle.std.proofs.Common.{◌≡◌, ◌++◌, List, map}
use Rattle.std.specs.Vec.Iter.{into_iter_items}
use Rattle.yp_handover.specs.Handover.{Follower, IsTakenOut, Triples}
use Rattle.yp_handover.proofs.closing.take_out.Given as goal

-- the jobs so far were taken apart, and those that are left come after them
abbrev pub invariant-loop-follower : goal.invariant-loop-follower
invariant-loop-follower g l = record {
  done : List Follower;
  all : done ++ map (λ job. record { reader = job.reader; worker = job.worker; boxes = job.outboxes.items; whole = job.whole }) (into_iter_items l.follower-iterator)
      ≡ map (λ job. record { reader = job.reader; worker = job.worker; boxes = job.outboxes.items; whole = job.whole }) l.fn.followers.items;
  out : Triples IsTakenOut done l.readers.items l.followed.items;
}
