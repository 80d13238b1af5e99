use Rattle.std.proofs.Common.{◌≡◌, ◌+◌, ◌==◌, List, [], ◌∷◌, drop, length, true, refl, ap, sym, subst, ◌∙◌, arith}
use Rattle.std.proofs.lemmas.Bool.{eqb-true}
use Rattle.std.proofs.lemmas.List.{drop_more}
use Rattle.std.specs.List.{AllByRecursion}
use Rattle.yp_base.specs.declared.path.Seg.{Seg}
use Rattle.yp_touch.specs.declared.root.Root.{Root}
use Rattle.yp_touch.specs.Absorbed.{paths_of}
use Rattle.yp_roster.proofs.patching.touch_nothing.Goals as goal

no_roots : (roots : List Root) → (length (paths_of roots) == 0) ≡ true → roots ≡ []
no_roots [] e = refl
no_roots (root ∷ roots) e = absurd (omega (arith, eqb-true (length (paths_of (root ∷ roots))) 0 e))

pub loop-step-preserved : goal.loop-step-preserved
loop-step-preserved c = λ rest.
    let i = c.loop-step.step-index in
    let step : List Root = c.step-item.result in
    let none = no_roots step (ap (λ (those : List (List Seg)). length those == 0) (sym c.roots.ensures) ∙ sym c.is_empty.ensures ∙ c.if-not-is_empty.false) in
    c.loop-step.invariant
    (subst (AllByRecursion (λ (s : List Root). s ≡ [])) (sym (drop_more c.args.steps.now i step c.loop-step-test.true ∙ ap (λ (s : List Root). s ∷ drop (i + 1) c.args.steps.now) (sym c.step-item.is))) (none, rest))
