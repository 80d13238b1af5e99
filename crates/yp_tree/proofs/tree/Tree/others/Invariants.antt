use Rattle.std.proofs.Common.{◌≡◌, ◌++◌}
use Rattle.yp_base.specs.Rows.{rows_of, rows_without}
use Rattle.yp_tree.proofs.tree.Tree.others.Given as goal

abbrev pub invariant-loop-path : goal.invariant-loop-path
invariant-loop-path l = rows_of l.entries.items ++ rows_without l.under (rows_of l.rows) ≡ rows_without l.under l.self
