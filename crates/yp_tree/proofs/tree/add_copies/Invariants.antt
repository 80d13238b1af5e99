use Rattle.std.proofs.Common.{◌≡◌, ◌++◌, take}
use Rattle.yp_base.specs.Rows.{rows_of}
use Rattle.yp_tree.proofs.tree.add_copies.Given as goal

abbrev pub invariant-loop-row : goal.invariant-loop-row
invariant-loop-row l = rows_of l.entries.items ≡ rows_of l.fn.entries.items ++ take l.row-index l.rows
