use Rattle.std.proofs.Common.{◌≡◌, drop}
use Rattle.yp_base.specs.Rows.{put_rows, rows_without}
use Rattle.yp_receiver.proofs.changing.put_edit.Given as goal

-- to put the rows that are left comes to what all come to
abbrev pub invariant-loop-row : goal.invariant-loop-row
invariant-loop-row l = put_rows (drop l.row-index l.row-items) l.rows ≡ put_rows l.change.rows (rows_without l.change.target l.fn.rows)
