use Rattle.std.proofs.Common.{◌≡◌}
use Rattle.yp_base.specs.Rows.{rows_of}
use Rattle.yp_tree.proofs.rising.tree_of.Given as goal

abbrev pub invariant-loop-row : goal.invariant-loop-row
invariant-loop-row l = rows_of l.entries.items ≡ l.yielded
