use Rattle.std.proofs.Common.{◌≡◌, true, List, ap, subst, ◌∙◌}
use mathlib.Core.List.{IsPrefix}
use Rattle.yp_published.specs.declared.history.Item.{Item}
use Rattle.yp_published.specs.Histories.{has_end}
use Rattle.yp_published.proofs.Fronts.{begun}
use Rattle.yp_published.proofs.history.Front.begins.Goals as goal

pub returns : goal.returns
returns g c =
    let both = c.learn.new.self.log in
    let this : IsPrefix c.self.inside.seen.log both = subst (λ (items : List Item). IsPrefix items both) (ap (λ s. s.log) c.again-both.ensures) c.learn.ensures.2 in
    let ends : has_end c.whole.inside.seen.log ≡ true = ap (λ k. k.ended) c.whole.view_is ∙ c.requires in
    rw (← c.self.view_is, ← c.whole.view_is) (begun c.self.inside.seen.log c.whole.inside.seen.log both this c.learn.ensures.3 c.learn.ensures.4.1.once ends)
