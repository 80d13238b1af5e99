use Rattle.std.proofs.Common.{List, ap, subst}
use mathlib.Core.List.{IsPrefix}
use Rattle.yp_published.specs.declared.history.Item.{Item}
use Rattle.yp_published.proofs.Fronts.{compared}
use Rattle.yp_published.proofs.history.Front.compare.Goals as goal

pub returns : goal.returns
returns g c =
    let both = c.learn.new.self.log in
    let this : IsPrefix c.self.inside.seen.log both = subst (λ (items : List Item). IsPrefix items both) (ap (λ s. s.log) c.again-both.ensures) c.learn.ensures.2 in
    rw (← c.self.view_is, ← c.other.view_is) (compared c.self.inside.seen.log c.other.inside.seen.log both this c.learn.ensures.3)
