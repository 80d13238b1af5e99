use Rattle.std.proofs.Common.{◌≡◌, ◌+◌, ◌++◌, length}
use Rattle.yp_base.specs.Rows.{AreInOrder}
use Rattle.yp_changes.specs.ChangeLaws.{AreSorted}
use Rattle.yp_changes.specs.Renewals.{made}
use Rattle.yp_changes.proofs.renewal.merged.Given as goal

abbrev pub invariant-loop-next : goal.invariant-loop-next
invariant-loop-next l = record {
  rows : AreInOrder l.rest.0.now;
  changes : AreSorted l.rest.1.now;
  order : AreInOrder (made l.changes l.rows);
  so_far : l.news ++ made l.rest.1.now l.rest.0.now ≡ made l.changes l.rows;
}

abbrev pub decreases-loop-next : goal.decreases-loop-next
decreases-loop-next l = length l.rest.0.now + length l.rest.1.now
