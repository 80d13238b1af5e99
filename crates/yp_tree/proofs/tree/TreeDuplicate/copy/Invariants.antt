use Rattle.std.proofs.Common.{◌≡◌, ◌++◌}
use Rattle.yp_base.specs.Rows.{rows_of}
use Rattle.yp_tree.proofs.tree.TreeDuplicate.copy.Given as goal

abbrev pub invariant-loop-path : goal.invariant-loop-path
invariant-loop-path l = rows_of l.entries.items ++ rows_of l.rows ≡ l.self
