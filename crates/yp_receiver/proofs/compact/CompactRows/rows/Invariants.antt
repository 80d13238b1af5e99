use Rattle.std.proofs.Common.{◌≡◌, take}
use Rattle.yp_receiver.specs.Compact.{compact_rows}
use Rattle.yp_receiver.proofs.compact.CompactRows.rows.Given as goal

abbrev pub invariant-loop-entry : goal.invariant-loop-entry
invariant-loop-entry l = l.rows.items ≡ compact_rows (take l.entry-index l.entry-items)
