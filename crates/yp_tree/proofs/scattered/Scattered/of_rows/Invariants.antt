use Rattle.std.proofs.Common.{◌≡◌, [], take}
use Rattle.yp_base.specs.Rows.{put_rows}
use Rattle.yp_tree.proofs.scattered.Scattered.of_rows.Given as goal

abbrev pub invariant-loop-row : goal.invariant-loop-row
invariant-loop-row l = l.scattered ≡ put_rows (take l.row-index l.rows) []
