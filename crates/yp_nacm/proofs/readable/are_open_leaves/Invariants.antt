use Rattle.std.proofs.Common.{◌≡◌, drop, take}
use Rattle.yp_nacm.specs.Decision.{are_open}
use Rattle.yp_nacm.proofs.readable.are_open_leaves.Given as goal

abbrev pub invariant-loop-leaf : goal.invariant-loop-leaf
invariant-loop-leaf l = are_open l.schema l.rules (take l.depth l.path) (drop l.leaf-index l.leaves) ≡ are_open l.schema l.rules (take l.depth l.path) l.leaves
