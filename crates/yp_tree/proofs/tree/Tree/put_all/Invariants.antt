use Rattle.std.proofs.Common.{◌≡◌, drop, length, take}
use Rattle.yp_base.specs.Rows.{put_rows}
use Rattle.yp_tree.specs.Listed.{undone}
use Rattle.yp_tree.proofs.tree.Tree.put_all.Given as goal

abbrev pub invariant-loop-row : goal.invariant-loop-row
invariant-loop-row l = record {
  count : length l.olds.items ≡ l.row-index;
  rows : put_rows (drop l.row-index l.row-items) l.self ≡ put_rows l.rows l.fn.self;
  olds : undone (take (length l.olds.items) l.rows) l.olds.items l.self ≡ l.fn.self;
}
