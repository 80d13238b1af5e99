use Rattle.std.proofs.Common.{◌≡◌}
use Rattle.std.specs.Vec.Iter.{into_iter_items}
use Rattle.yp_base.specs.Rows.{put_rows}
use Rattle.yp_edit.proofs.edit.put_all.Given as goal

abbrev pub invariant-loop-row : goal.invariant-loop-row
invariant-loop-row g l = record {
  before : l.trial.before ≡ l.fn.trial.before;
  after : put_rows (into_iter_items l.row-iterator) l.trial.after ≡ put_rows l.fn.rows l.fn.trial.after;
}
