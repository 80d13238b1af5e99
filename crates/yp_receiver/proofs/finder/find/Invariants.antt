use Rattle.std.proofs.Common.{length}
use Rattle.yp_receiver.specs.Finding.{AreLeft}
use Rattle.yp_receiver.proofs.finder.find.Given as goal

-- the rows that were passed come before the path
abbrev pub invariant-loop-first : goal.invariant-loop-first
invariant-loop-first l = AreLeft l.path l.rows l.left

abbrev pub decreases-loop-first : goal.decreases-loop-first
decreases-loop-first l = length l.left
