use Rattle.std.proofs.Common.{◌≡◌}
use Rattle.yp_base.specs.Rows.{put_rows}
use Rattle.yp_tree.proofs.rising.put_each.Given as goal

abbrev pub invariant-loop-row : goal.invariant-loop-row
invariant-loop-row l = l.tree ≡ put_rows l.yielded l.initial.tree
