use Rattle.std.proofs.Common.{◌≡◌, length}
use Rattle.yp_base.specs.Types.{are_distinct}
use Rattle.yp_patch.specs.Shapes.{ids_of}
use Rattle.yp_patch.proofs.reading.are_few_distinct.Given as goal

abbrev pub invariant-loop-edit : goal.invariant-loop-edit
invariant-loop-edit l = are_distinct (ids_of l.rest) ≡ are_distinct (ids_of l.edits)

abbrev pub decreases-loop-edit : goal.decreases-loop-edit
decreases-loop-edit l = length l.rest
