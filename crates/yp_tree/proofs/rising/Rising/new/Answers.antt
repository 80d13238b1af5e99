use Rattle.std.proofs.Common.{sym, subst}
use Rattle.yp_base.specs.Rows.{AreInOrder}
use Rattle.yp_base.specs.RowLaws.{none_order}
use Rattle.yp_tree.proofs.rising.Rising.new.Goals as goal

pub invariant_of-result : goal.invariant_of-result
invariant_of-result c = subst AreInOrder (sym c.new.ensures.items) none_order
