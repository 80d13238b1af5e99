use Rattle.std.proofs.Common.{◌≡◌, ◌≤◌, length, take}
use Rattle.yp_value.specs.Texts.{shortened}
use Rattle.yp_value.proofs.number.shorten.Given as goal

abbrev pub invariant-loop-kept : goal.invariant-loop-kept
invariant-loop-kept l = (l.kept ≤ length l.digits) × (shortened (take l.kept l.digits) ≡ shortened l.digits)

abbrev pub decreases-loop-kept : goal.decreases-loop-kept
decreases-loop-kept l = l.kept
