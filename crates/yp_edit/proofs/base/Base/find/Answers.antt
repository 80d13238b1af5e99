use Rattle.std.proofs.Common.{List, Some, None, ap, sym, subst, ◌∙◌}
use Rattle.std.specs.Ordering.{is_eq}
use Rattle.yp_base.specs.declared.path.Seg.{Seg}
use Rattle.yp_base.specs.Rows.{value_at, row_of}
use Rattle.yp_tree.specs.Gaps.{IsGap}
use Rattle.yp_tree.specs.GapLaws.{first_at_it}
use Rattle.yp_edit.specs.Bases.{Touched}
use Rattle.yp_edit.proofs.Gaps.{gap_to, gap_on, not_here, none_on}
use Rattle.yp_edit.proofs.base.Base.find.Goals as goal

pub returns-then-is_eq-clause-found : goal.returns-then-is_eq-clause-found
returns-then-is_eq-clause-found g c =
    sym (first_at_it c.args.path.now c.self.inside.tree.now (row_of (c.in-Some.first.now, c.in-Some.value.now)) (sym c.in-Some.ensures.found)
    (ap is_eq (sym c.cmp.ensures) ∙ sym c.is_eq.ensures ∙ c.if-is_eq.true))
    ∙ ap (λ (b : Touched). value_at c.args.path.now b.rows) c.self.view_is

pub keep_gap-requires : goal.keep_gap-requires
keep_gap-requires g c =
    subst (λ (b : Touched). IsGap c.args.path.now (Some c.in_ok-end-in-Some.end) b.rows) c.self.view_is
    (subst (λ (end : List Seg). IsGap c.args.path.now (Some end) c.self.inside.tree.now) (sym c.in_ok-end-in-Some.ensures)
    (gap_to c.args.path.now c.self.inside.tree.now (row_of (c.in-Some.first.now, c.in-Some.value.now)) c.self.invariant.0.in_order (sym c.in-Some.ensures.found)))

pub returns-in_ok-keep_gap-in-Some-clause-found : goal.returns-in_ok-keep_gap-in-Some-clause-found
returns-in_ok-keep_gap-in-Some-clause-found g c =
    sym (not_here c.args.path.now c.self.inside.tree.now (row_of (c.in-Some.first.now, c.in-Some.value.now)) c.self.invariant.0.in_order (sym c.in-Some.ensures.found)
    (ap is_eq (sym c.cmp.ensures) ∙ sym c.is_eq.ensures ∙ c.if-is_eq.false))
    ∙ ap (λ (b : Touched). value_at c.args.path.now b.rows) c.self.view_is

pub keep_gap-requires-in-None : goal.keep_gap-requires-in-None
keep_gap-requires-in-None g c =
    subst (λ (b : Touched). IsGap c.args.path.now None b.rows) c.self.view_is (gap_on c.args.path.now c.self.inside.tree.now c.self.invariant.0.in_order (sym c.in-None.ensures.found))

pub returns-in_ok-keep_gap-in-None-clause-found : goal.returns-in_ok-keep_gap-in-None-clause-found
returns-in_ok-keep_gap-in-None-clause-found g c =
    sym (none_on c.args.path.now c.self.inside.tree.now c.self.invariant.0.in_order (sym c.in-None.ensures.found)) ∙ ap (λ (b : Touched). value_at c.args.path.now b.rows) c.self.view_is
