use Rattle.std.proofs.Common.{◌≡◌, List, take}
use Rattle.yp_base.specs.declared.path.Seg.{Seg}
use Rattle.yp_receiver.specs.Gone.{is_below_one, is_targeted}
use Rattle.yp_receiver.proofs.changing.targets_of.Given as goal

-- the targets of the edits so far
abbrev pub invariant-loop-change : goal.invariant-loop-change
invariant-loop-change l = (path : List Seg) → is_below_one l.targets.items path ≡ is_targeted (take l.change-index l.changes) path
