use Rattle.std.proofs.Common.{◌≡◌, length, OnOk, refl, ap, subst, ◌∙◌}
use Rattle.yp_terms.specs.Refusals.{first_refusal}
use Rattle.yp_registry.specs.Registry.{Subscriptions}
use Rattle.yp_terms.specs.Amends.{amended_terms}
use Rattle.yp_registry.specs.Amending.{reconfigure_reasons, with_change}
use Rattle.yp_journal.specs.declared.command.Command.TheVariants.{Reconfigure}
use Rattle.yp_journal.specs.History.{JournalState, next_state}
use Rattle.yp_journal.proofs.Answering.{left_state, left_users}
use Rattle.yp_journal.proofs.state.State.reconfigure.Goals as goal

pub invariant_of-self : goal.invariant_of-self
invariant_of-self c =
    let nodes = c.args.schema.now in
    let id = c.args.id in
    let amend = c.args.amend.now in
    let inside = c.self.inside in
    let state : JournalState = record { rows = inside.tree; policy = inside.policy; stamp = inside.stamp; position = inside.position; registry = inside.registry; receivers = inside.receivers } in
    let found = first_refusal (reconfigure_reasons nodes state.registry id amend) in
    let after : Subscriptions = with_change id (amended_terms nodes amend state.stamp) state.registry in
    (c.self.invariant.0, ap length (left_users c.reconfigure-answer.result found c.reconfigure-answer.new.self state.registry after c.reconfigure-answer.ensures.state c.reconfigure-answer.ensures.unchanged refl) ∙ c.self.invariant.1)

pub returns-clause-state : goal.returns-clause-state
returns-clause-state c =
    let nodes = c.args.schema.now in
    let id = c.args.id in
    let amend = c.args.amend.now in
    let inside = c.self.inside in
    let state : JournalState = record { rows = inside.tree; policy = inside.policy; stamp = inside.stamp; position = inside.position; registry = inside.registry; receivers = inside.receivers } in
    let found = first_refusal (reconfigure_reasons nodes state.registry id amend) in
    let after : Subscriptions = with_change id (amended_terms nodes amend state.stamp) state.registry in
    subst (λ (s : JournalState). OnOk c.answer.result (c.answer.new.self ≡ next_state nodes s (Reconfigure id amend))) c.self.view_is
    (left_state c.answer.result c.reconfigure-answer.result found state c.answer.new.self c.reconfigure-answer.new.self after c.reconfigure-answer.ensures.answer c.answer.ensures.told c.reconfigure-answer.ensures.state c.reconfigure-answer.ensures.unchanged c.answer.ensures.state)
