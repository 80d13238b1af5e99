use Rattle.std.proofs.Common.{◌≡◌, ◌+◌, ◌++◌, length}
use Rattle.yp_base.specs.Rows.{rows_within, rows_of}
use Rattle.yp_tree.proofs.Cuts.{front_within}
use Rattle.yp_tree.proofs.tree.Tree.rows_within.Given as goal

abbrev pub invariant-loop-row : goal.invariant-loop-row
invariant-loop-row g l = record {
  rows : l.found.items ++ rows_of (front_within l.under l.rows) ≡ rows_within l.under l.self;
  visits : l.steps ≡ l.fn.steps + length l.found.items;
}
