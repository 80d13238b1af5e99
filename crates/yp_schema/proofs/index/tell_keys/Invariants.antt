use Rattle.std.proofs.Common.{◌-◌, ◌≤◌, length}
use Rattle.yp_schema.proofs.Flags.{FlagsOf}
use Rattle.yp_schema.proofs.index.tell_keys.Given as goal

-- the nodes so far are told
abbrev pub invariant-loop-flags : goal.invariant-loop-flags
invariant-loop-flags l = (length l.flags.items ≤ length l.nodes) × FlagsOf l.flags.items l.nodes

abbrev pub decreases-loop-flags : goal.decreases-loop-flags
decreases-loop-flags l = length l.nodes - length l.flags.items
