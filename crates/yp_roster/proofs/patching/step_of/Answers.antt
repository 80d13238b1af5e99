use Rattle.std.proofs.Common.{◌≡◌, true≢false, ap, sym, subst, ◌∙◌}
use Rattle.std.specs.Prelude.{is_some, IfSome}
use Rattle.std.proofs.lemmas.Bool.{and_from}
use Rattle.yp_filter.specs.View.{filter_view}
use Rattle.yp_slot.specs.Classes.{is_filtered}
use Rattle.yp_slot.specs.ResultLaws.{when_is_ok}
use Rattle.yp_roster.proofs.patching.step_of.Goals as goal

pub roots_of-requires-clause-entered : goal.roots_of-requires-clause-entered
roots_of-requires-clause-entered g c =
    let found = c.requires.entered in
    (found.0, found.1, subst (λ o. IfSome o (λ tree. tree.now ≡ found.0.rows)) c.in-Some.is found.1.entered.rows)

pub returns-in-Some : goal.returns-in-Some
returns-in-Some g c = when_is_ok c.roots_of.result c.roots_of.ensures (λ step made. λ before by on.
    made before by (subst (λ o. IfSome o (λ tree. tree.now ≡ before.rows)) c.in-Some.is by.entered.rows))

pub returns-in-None : goal.returns-in-None
returns-in-None g c = λ before by on.
    absurd (true≢false (sym (c.requires.tree (and_from c.args.class.now.on_change (is_filtered (filter_view c.args.class.now.filter)) on (sym c.is_filtered.ensures ∙ c.if-not-is_filtered.false))) ∙ ap is_some c.in-None.is))
