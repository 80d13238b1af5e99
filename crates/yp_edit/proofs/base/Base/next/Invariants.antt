use Rattle.std.proofs.Common.{◌≡◌, length, map}
use Rattle.yp_base.specs.Rows.{path_of, next_row, AreInOrder}
use Rattle.yp_edit.specs.Bases.{left}
use Rattle.yp_edit.proofs.Walking.{later}
use Rattle.yp_edit.proofs.base.Base.next.Given as goal

abbrev pub invariant-loop-path : goal.invariant-loop-path
invariant-loop-path g l = record {
  order : AreInOrder l.self-inside.tree.now;
  so_far : next_row l.last l.under (left (map path_of l.self-inside.touched) l.self-inside.tree.now) ≡ next_row l.after l.under (left (map path_of l.self-inside.touched) l.self-inside.tree.now);
}

abbrev pub decreases-loop-path : goal.decreases-loop-path
decreases-loop-path g l = length (later l.last l.under l.self-inside.tree.now)
