use Rattle.std.proofs.Common.{◌≡◌, ◌<◌, length, ap, sym, subst, ◌∙◌}
use Rattle.std.proofs.lemmas.Option.{same_Some}
use Rattle.yp_nacm.specs.Same.{are_same_rules}
use Rattle.yp_journal.specs.History.{rules_at}
use Rattle.yp_slot.proofs.Entering.{receivers_after}
use Rattle.yp_slot.proofs.following.keeps_rules.Goals as goal

pub rules-before-requires : goal.rules-before-requires
rules-before-requires c = subst (λ n. c.args.receiver < n) (sym c.requires.1.own.count) c.requires.2

pub rules_of-requires-clause-receiver : goal.rules_of-requires-clause-receiver
rules_of-requires-clause-receiver c =
    let entered = c.args.entered.now in
    let receivers = receivers_after entered.present.schema.now c.requires.0 entered.present.state.now entered.entry.now.command c.requires.1.after in
    subst (λ n. c.args.receiver < n) (ap length (sym receivers)) c.requires.2

pub returns : goal.returns
returns c = λ before entered within.
    let here : c.rules-before.result.now ≡ rules_at before c.args.receiver = same_Some _ _ (sym c.rules-before.ensures ∙ entered.own.each c.args.receiver (subst (λ n. c.args.receiver < n) (sym entered.own.count) within)) in
    c.same_rules.ensures.same ∙ (λ i. are_same_rules (here i) (c.rules_of.ensures i))
