use Rattle.std.proofs.Common.{subst}
use Rattle.yp_base.specs.Rows.{AreInOrder}
use Rattle.yp_base.specs.RowLaws.{puts_order}
use Rattle.yp_edit.specs.Bases.{untouched}
use Rattle.yp_edit.specs.Drafts.{Drafted}
use Rattle.yp_edit.proofs.Bases.{left_order}
use Rattle.yp_edit.proofs.draft.Draft.in_order.Goals as goal

pub returns : goal.returns
returns c =
    subst (λ (d : Drafted). AreInOrder d.after) c.self.view_is
    (puts_order c.self.inside.put (untouched c.self.inside.base) (left_order c.self.inside.base.paths c.self.inside.base.rows c.len-2.ensures.order))
