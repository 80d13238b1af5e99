use Rattle.std.proofs.lemmas.Bool.Decides.{Decides-at}
use Rattle.yp_filter.specs.View.{set_view}
use Rattle.yp_filter.proofs.Sameness.{filters_decide}
use Rattle.yp_filter.proofs.same.same_filter.Goals as goal

pub returns-in-Set-other-2 : goal.returns-in-Set-other-2
returns-in-Set-other-2 c =
    let one = set_view c.in-Set.set in
    let other = set_view c.in-Set-other-2.other_set in
    rw (c.in-Set.is, c.in-Set-other-2.is) (Decides-at c.same_set.result _ c.same_set.ensures (filters_decide one other))
