use Rattle.std.proofs.Common.{◌≡◌, drop}
use Rattle.yp_kept.specs.Standing.{views, select_child}
use Rattle.yp_kept.proofs.standing.select_child.Given as goal

-- the sets that are left tell it of all
abbrev pub invariant-loop-set : goal.invariant-loop-set
invariant-loop-set l = select_child l.node (views (drop l.set-index l.sets)) ≡ select_child l.node (views l.sets)
