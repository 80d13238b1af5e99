use Rattle.std.proofs.Common.{◌≡◌, ◌+◌, ◌++◌, length}
use Rattle.yp_base.specs.Rows.{AreInOrder}
use Rattle.yp_changes.specs.Changes.{changed_rows}
use Rattle.yp_changes.proofs.difference.differing.Given as goal

abbrev pub invariant-loop-next : goal.invariant-loop-next
invariant-loop-next l = record {
  olds : AreInOrder l.rest.0.now;
  news : AreInOrder l.rest.1.now;
  so_far : l.changed.items ++ changed_rows l.rest.0.now l.rest.1.now ≡ changed_rows l.olds l.news;
}

abbrev pub decreases-loop-next : goal.decreases-loop-next
decreases-loop-next l = length l.rest.0.now + length l.rest.1.now
