use Rattle.std.proofs.Common.{◌≡◌, ◌++◌, drop, map}
use Rattle.yp_changes.specs.Changes.{turned}
use Rattle.yp_changes.proofs.former.all_turned.Given as goal

-- those so far and those that are left are all
abbrev pub invariant-loop-change : goal.invariant-loop-change
invariant-loop-change l = l.others.items ++ map turned (drop l.change-index l.changed) ≡ map turned l.changed
