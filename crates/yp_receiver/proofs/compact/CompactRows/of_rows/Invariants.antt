use Rattle.std.proofs.Common.{◌≡◌, ◌++◌, length}
use Rattle.yp_receiver.specs.Compact.{compact_rows}
use Rattle.yp_receiver.proofs.compact.CompactRows.of_rows.Given as goal

abbrev pub invariant-loop-row : goal.invariant-loop-row
invariant-loop-row l = compact_rows l.entries.items ++ l.rest ≡ l.rows

abbrev pub decreases-loop-row : goal.decreases-loop-row
decreases-loop-row l = length l.rest
