use Rattle.std.specs.Vec.Iter.{into_iter_items}
use Rattle.yp_edit.proofs.Touching.{Touching}
use Rattle.yp_edit.proofs.base.Base.touch_rows.Given as goal

abbrev pub invariant-loop-row : goal.invariant-loop-row
invariant-loop-row l = Touching l.fn.self l.self l.fn.rows.items (into_iter_items l.row-iterator)
