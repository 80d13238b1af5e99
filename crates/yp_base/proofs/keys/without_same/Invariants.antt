use Rattle.std.proofs.Common.{◌≡◌, ◌≤◌, ◌-◌, length, drop}
use Rattle.std.specs.Cmp.Lexicographic.{slice_cmp}
use Rattle.yp_base.specs.Order.{atom_cmp}
use Rattle.yp_base.proofs.keys.without_same.Given as goal

-- what is left compares as the whole
abbrev pub invariant-loop-same : goal.invariant-loop-same
invariant-loop-same l = (l.same ≤ length l.one) × (l.same ≤ length l.other) × (slice_cmp atom_cmp (drop l.same l.one) (drop l.same l.other) ≡ slice_cmp atom_cmp l.one l.other)

abbrev pub decreases-loop-same : goal.decreases-loop-same
decreases-loop-same l = length l.one - l.same
