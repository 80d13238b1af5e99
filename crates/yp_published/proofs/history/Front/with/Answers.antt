use Rattle.std.proofs.Common.{◌≡◌, false, List, [], ◌∷◌, ap, sym, subst, ◌∙◌, arith, length-append, length}
use Rattle.yp_journal.specs.declared.entry.Entry.{Entry}
use Rattle.yp_journal.specs.History.{MayFollow, state_of, IsLegal}
use Rattle.yp_journal.specs.JournalLaws.{legal_more}
use Rattle.yp_published.specs.Histories.{has_end, entries_in}
use Rattle.yp_published.specs.Histories.{AreOfLanes}
use Rattle.yp_published.proofs.Fronts.{all_entries, with_one, known_begins}
use Rattle.yp_published.proofs.Fronts.{of_lanes_added}
use Rattle.yp_published.proofs.history.Front.with.Goals as goal

pub stepped-requires-clause-all : goal.stepped-requires-clause-all
stepped-requires-clause-all g c =
    let items = c.self.inside.seen.log in
    let goes_on : has_end items ≡ false = ap (λ k. k.ended) c.self.view_is ∙ c.requires.goes_on in
    c.self.invariant.0 ∙ all_entries items goes_on

pub invariant_of-result : goal.invariant_of-result
invariant_of-result g c =
    let items = c.self.inside.seen.log in
    let goes_on : has_end items ≡ false = ap (λ k. k.ended) c.self.view_is ∙ c.requires.goes_on in
    let new = c.in_ok-seen.seen.log in
    let entry = c.args.entry.now in
    let one = with_one items new entry c.in_ok-seen.ensures.0 c.self.invariant.3 goes_on in
    let follows : MayFollow g.J.Naming.nodes (state_of g.J.Naming.nodes g.J.Naming.opening (entries_in items)) entry = subst (λ (entries : List Entry). MayFollow g.J.Naming.nodes (state_of g.J.Naming.nodes g.J.Naming.opening entries) entry) (sym (ap (λ k. k.entries) c.self.view_is)) c.requires.legal in (
      omega (arith, c.self.invariant.0, ap length one.0, length-append (entries_in items) (entry ∷ [])),
      sym one.1,
      c.in_ok-seen.ensures.1,
      one.2,
      subst (IsLegal g.J.Naming.nodes g.J.Naming.opening) (sym one.0) (legal_more g.J.Naming.nodes g.J.Naming.opening (entries_in items) entry c.self.invariant.4 follows),
      subst (AreOfLanes g.J.Ledger.parts) (sym one.0) (of_lanes_added g.J.Ledger.parts (entries_in items) entry c.self.invariant.5 c.requires.lane),
    )

pub returns : goal.returns
returns g c =
    let items = c.self.inside.seen.log in
    let goes_on : has_end items ≡ false = ap (λ k. k.ended) c.self.view_is ∙ c.requires.goes_on in
    let one = with_one items c.in_ok-seen.seen.log c.args.entry.now c.in_ok-seen.ensures.0 c.self.invariant.3 goes_on in
    rw (← c.self.view_is, ← c.other.view_is) (one.0, one.1, known_begins c.other.inside.seen.log items c.in_ok-seen.ensures.2 c.self.invariant.3)
