use Rattle.std.proofs.Common.{◌≡◌, length}
use Rattle.std.specs.Prelude.{is_some}
use Rattle.yp_base.specs.Rows.{AreInOrder, value_at}
use Rattle.yp_tree.proofs.rising.has_path.Given as goal

abbrev pub invariant-loop-middle : goal.invariant-loop-middle
invariant-loop-middle l = record {
  order : AreInOrder l.rest;
  so_far : is_some (value_at l.path l.rest) ≡ is_some (value_at l.path l.rows);
}

abbrev pub decreases-loop-middle : goal.decreases-loop-middle
decreases-loop-middle l = length l.rest
