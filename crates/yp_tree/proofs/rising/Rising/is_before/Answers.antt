use Rattle.std.proofs.Common.{◌≡◌, sym, ap, subst, ◌∙◌}
use Rattle.yp_base.specs.Rows.{AreInOrder, has_within, rows_without}
use Rattle.yp_tree.specs.Risen.{is_past, kept_rows}
use Rattle.yp_tree.proofs.Halves.{none_within_end, all_without_end}
use Rattle.yp_tree.proofs.rising.Rising.is_before.Goals as goal

pub returns-in-Appended-clause-none : goal.returns-in-Appended-clause-none
returns-in-Appended-clause-none c past =
    let kept = ap kept_rows c.in-Appended.is in
    let is : is_past c.args.path.now c.in-Appended.rows.items ≡ c.is_past.result = sym (c.is_past.ensures ∙ ap (is_past c.args.path.now) c.as_slice.ensures.value) in
    ap (has_within c.args.path.now) (sym (sym kept ∙ c.self.view_is))
    ∙ none_within_end c.args.path.now c.in-Appended.rows.items (subst AreInOrder kept c.self.invariant) (is ∙ past)

pub returns-in-Appended-clause-all : goal.returns-in-Appended-clause-all
returns-in-Appended-clause-all c past =
    let kept = ap kept_rows c.in-Appended.is in
    let is : is_past c.args.path.now c.in-Appended.rows.items ≡ c.is_past.result = sym (c.is_past.ensures ∙ ap (is_past c.args.path.now) c.as_slice.ensures.value) in
    let view = sym kept ∙ c.self.view_is in
    ap (rows_without c.args.path.now) (sym view)
    ∙ all_without_end c.args.path.now c.in-Appended.rows.items (subst AreInOrder kept c.self.invariant) (is ∙ past)
    ∙ view
