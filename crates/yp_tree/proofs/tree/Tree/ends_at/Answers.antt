use Rattle.std.proofs.Common.{◌∷◌, ap, sym, ◌∙◌}
use Rattle.std.specs.Ordering.{is_eq}
use Rattle.std.proofs.lemmas.Bool.{not-true}
use Rattle.yp_tree.proofs.Cuts.{nothing_leaves, outside_leaves, row_leaves, row_first_leaves}
use Rattle.yp_tree.proofs.tree.Tree.ends_at.Goals as goal

pub returns-then-not-is_eq : goal.returns-then-not-is_eq
returns-then-not-is_eq c outside =
    outside_leaves c.args.path.now c.self.inside.kept.entries c.range-rows.result c.args.self.now c.self.invariant c.self.view_is (c.range-rows.ensures.between tt)
    (c.in-Some.first.now, c.in-Some._value.now) _ c.in-Some.ensures.steps (sym c.is_prefix.ensures.value ∙ not-true _ outside)

pub returns-in-Some-next : goal.returns-in-Some-next
returns-in-Some-next c outside =
    row_first_leaves c.args.path.now c.self.inside.kept.entries c.range-rows.result c.args.self.now c.self.invariant c.self.view_is (c.range-rows.ensures.between tt)
    (c.in-Some.first.now, c.in-Some._value.now) (c.in-Some-next.second.now, c.in-Some-next._value.now) _
    (c.in-Some.ensures.steps ∙ ap (λ rest. (c.in-Some.first.now, c.in-Some._value.now) ∷ rest) c.in-Some-next.ensures.steps)
    (ap is_eq (sym c.cmp.ensures) ∙ sym c.is_eq.ensures ∙ c.if-not-is_eq.false)
    (sym c.is_prefix-in-Some-next.ensures.value ∙ not-true _ outside)

pub returns-in-None-next : goal.returns-in-None-next
returns-in-None-next c alone =
    row_leaves c.args.path.now c.self.inside.kept.entries c.range-rows.result c.args.self.now c.self.invariant c.self.view_is (c.range-rows.ensures.between tt)
    (c.in-Some.first.now, c.in-Some._value.now)
    (c.in-Some.ensures.steps ∙ ap (λ rest. (c.in-Some.first.now, c.in-Some._value.now) ∷ rest) c.in-None-next.ensures.steps.0)
    (ap is_eq (sym c.cmp.ensures) ∙ sym c.is_eq.ensures ∙ c.if-not-is_eq.false)

pub returns-in-None : goal.returns-in-None
returns-in-None c alone = nothing_leaves c.args.path.now c.self.inside.kept.entries c.range-rows.result c.args.self.now c.self.invariant c.self.view_is (c.range-rows.ensures.between tt) c.in-None.ensures.steps.0
