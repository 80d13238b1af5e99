use Rattle.std.proofs.Common.{◌≡◌}
use Rattle.yp_attempt.specs.Workers.{numbers_of}
use Rattle.yp_worker.proofs.opening.numbers_of.Given as goal

-- those so far
abbrev pub invariant-loop-number : goal.invariant-loop-number
invariant-loop-number l = l.numbers.items ≡ numbers_of l.worker l.workers l.number
