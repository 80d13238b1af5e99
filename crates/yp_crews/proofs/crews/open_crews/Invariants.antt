use Rattle.std.proofs.Common.{◌≡◌, [], length, replicate}
use Rattle.yp_attempt.specs.Runs.{first_run}
use Rattle.yp_crews.specs.Crews.{AreCrews}
use Rattle.yp_crews.proofs.crews.open_crews.Given as goal

-- those so far
abbrev pub invariant-loop-worker : goal.invariant-loop-worker
invariant-loop-worker l = record {
  count : length l.crews.items ≡ l.worker;
  are : AreCrews l.schema l.start l.receivers l.workers 0 [] (replicate l.worker first_run) l.crews.items;
}
