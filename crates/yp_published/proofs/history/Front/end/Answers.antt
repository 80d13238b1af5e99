use Rattle.std.proofs.Common.{◌≡◌, false, length, ap, sym, subst, ◌∙◌}
use Rattle.yp_journal.specs.History.{IsLegal}
use Rattle.yp_published.specs.Histories.{has_end}
use Rattle.yp_published.specs.Histories.{AreOfLanes}
use Rattle.yp_published.proofs.Fronts.{all_entries, with_end}
use Rattle.yp_published.proofs.history.Front.end.Goals as goal

pub stepped-requires-clause-all : goal.stepped-requires-clause-all
stepped-requires-clause-all g c =
    let items = c.self.inside.seen.log in
    let goes_on : has_end items ≡ false = ap (λ k. k.ended) c.self.view_is ∙ c.requires.goes_on in
    c.self.invariant.0 ∙ all_entries items goes_on

pub invariant_of-result : goal.invariant_of-result
invariant_of-result g c =
    let items = c.self.inside.seen.log in
    let goes_on : has_end items ≡ false = ap (λ k. k.ended) c.self.view_is ∙ c.requires.goes_on in
    let whole = with_end items c.in_ok-seen.seen.log c.in_ok-seen.ensures.0 c.self.invariant.3 goes_on in (
      c.self.invariant.0 ∙ sym (ap length whole.0),
      sym whole.1,
      c.in_ok-seen.ensures.1,
      whole.2,
      subst (IsLegal g.J.Naming.nodes g.J.Naming.opening) (sym whole.0) c.self.invariant.4,
      subst (AreOfLanes g.J.Ledger.parts) (sym whole.0) c.self.invariant.5,
    )

pub returns : goal.returns
returns g c =
    let items = c.self.inside.seen.log in
    let goes_on : has_end items ≡ false = ap (λ k. k.ended) c.self.view_is ∙ c.requires.goes_on in
    let whole = with_end items c.in_ok-seen.seen.log c.in_ok-seen.ensures.0 c.self.invariant.3 goes_on in
    rw (← c.self.view_is) (whole.0, whole.1)
