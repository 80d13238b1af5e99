use Rattle.std.proofs.Common.{ap, sym, subst, ◌∙◌}
use Rattle.yp_base.specs.Rows.{AreInOrder}
use Rattle.yp_changes.specs.Changes.{changed_rows}
use Rattle.yp_edit.specs.Drafts.{Drafted}
use Rattle.yp_edit.proofs.Differing.{told_all, all_told}
use Rattle.yp_edit.proofs.draft.Draft.changes.Goals as goal

pub differing-requires-clause-olds : goal.differing-requires-clause-olds
differing-requires-clause-olds c = subst AreInOrder (sym c.items.ensures) c.in_ok-olds.ensures.in_order

pub differing-requires-clause-news : goal.differing-requires-clause-news
differing-requires-clause-news c = subst AreInOrder (sym (c.items-2.ensures ∙ c.in_ok-news.ensures)) c.len.ensures.order

pub returns : goal.returns
returns c =
    all_told c.differing.result _ _ (
    (λ i. changed_rows (c.items.ensures i) ((c.items-2.ensures ∙ c.in_ok-news.ensures) i))
    ∙ told_all c.self.inside.base c.in_ok-olds.olds c.self.inside.put c.in_ok-olds.ensures c.self.invariant c.len.ensures.order c.len-2.ensures.order
    ∙ ap (λ (d : Drafted). changed_rows d.before d.after) c.self.view_is) c.differing.ensures
