use Rattle.std.proofs.Common.{◌≡◌, []}
use Rattle.std.specs.Vec.Iter.{into_iter_items}
use Rattle.yp_base.specs.Rows.{put_rows}
use Rattle.yp_receiver.proofs.holding.put_in_order.Given as goal

-- to put the rows that are left comes to what all come to
abbrev pub invariant-loop-row : goal.invariant-loop-row
invariant-loop-row l = put_rows (into_iter_items l.row-iterator) l.all ≡ put_rows l.fn.rows []
