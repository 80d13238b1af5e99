use Rattle.std.proofs.Common.{sym, subst}
use Rattle.yp_base.specs.Rows.{AreInOrder}
use Rattle.yp_base.specs.RowLaws.{puts_order}
use Rattle.yp_tree.specs.Risen.{kept_rows}
use Rattle.yp_tree.proofs.rising.Rising.put_all.Goals as goal

pub invariant_of-self : goal.invariant_of-self
invariant_of-self c =
    subst AreInOrder (sym c.in_ok-self-inside.ensures) (puts_order c.in_ok-news.news.items (kept_rows c.kept.inside.kept) c.kept.invariant)
