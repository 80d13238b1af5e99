use Rattle.std.proofs.Common.{sym, ap, subst, ◌∙◌, not}
use Rattle.std.specs.Prelude.{is_some}
use Rattle.yp_base.specs.Rows.{AreInOrder, value_at}
use Rattle.yp_tree.specs.Risen.{is_past, kept_rows}
use Rattle.yp_tree.proofs.Halves.{none_at_end}
use Rattle.yp_tree.proofs.rising.Rising.has.Goals as goal

pub returns-else-not-is_past : goal.returns-else-not-is_past
returns-else-not-is_past c =
    let rows = c.in-Appended.rows.items in
    let kept = ap kept_rows c.in-Appended.is in
    ap not c.if-not-is_past.false
    ∙ sym (ap is_some (none_at_end c.args.path.now rows c.is_past.result (subst AreInOrder kept c.self.invariant) (c.is_past.ensures ∙ ap (is_past c.args.path.now) c.as_slice.ensures.value) c.if-not-is_past.false))
    ∙ ap (λ some. is_some (value_at c.args.path.now some)) (sym kept ∙ c.self.view_is)
