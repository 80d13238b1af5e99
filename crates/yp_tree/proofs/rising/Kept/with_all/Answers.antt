use Rattle.std.proofs.Common.{◌≡◌, true, sym, ap, subst, ◌∙◌}
use Rattle.yp_base.specs.Rows.{AreInOrder, put_rows}
use Rattle.yp_tree.specs.Risen.{kept_rows, starts_past}
use Rattle.yp_tree.proofs.Appending.{both_order}
use Rattle.yp_tree.proofs.Gathered.{puts_past}
use Rattle.yp_tree.proofs.rising.Kept.with_all.Goals as goal

pub returns-then-starts_past : goal.returns-then-starts_past
returns-then-starts_past c =
    let news = c.args.news.items in
    let rows = c.in-Appended.rows.items in
    let order = subst AreInOrder (ap kept_rows c.in-Appended.is) c.requires.order in
    let past = sym (ap (λ first. starts_past first c.as_slice-in-Appended.result.now) c.as_slice.ensures.value ∙ ap (starts_past news) c.as_slice-in-Appended.ensures.value) ∙ sym c.starts_past.ensures ∙ c.if-starts_past.true in
    c.in_ok-joined-in-Appended.ensures
    ∙ sym (puts_past rows news order (both_order rows news order c.requires.news past))
    ∙ ap (put_rows news) (sym (ap kept_rows c.in-Appended.is))
