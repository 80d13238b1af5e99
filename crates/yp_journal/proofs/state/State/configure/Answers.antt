use Rattle.std.proofs.Common.{◌≡◌, length, OnOk, refl, ap, subst, ◌∙◌}
use Rattle.yp_terms.specs.Refusals.{first_refusal}
use Rattle.yp_registry.specs.Registry.{Subscriptions}
use Rattle.yp_registry.specs.Configuring.{configure_reasons, configured_terms, with_configured}
use Rattle.yp_journal.specs.declared.command.Command.TheVariants.{Configure}
use Rattle.yp_journal.specs.History.{JournalState, next_state}
use Rattle.yp_journal.proofs.Answering.{left_state, left_users}
use Rattle.yp_journal.proofs.state.State.configure.Goals as goal

pub invariant_of-self : goal.invariant_of-self
invariant_of-self c =
    let nodes = c.args.schema.now in
    let id = c.args.id in
    let receivers = c.args.receivers.now in
    let ask = c.args.ask.now in
    let inside = c.self.inside in
    let state : JournalState = record { rows = inside.tree; policy = inside.policy; stamp = inside.stamp; position = inside.position; registry = inside.registry; receivers = inside.receivers } in
    let found = first_refusal (configure_reasons nodes state.registry id receivers ask) in
    let after : Subscriptions = with_configured state.registry (configured_terms nodes state.registry id receivers ask state.stamp) in
    (c.self.invariant.0, ap length (left_users c.configure-answer.result found c.configure-answer.new.self state.registry after c.configure-answer.ensures.state c.configure-answer.ensures.unchanged refl) ∙ c.self.invariant.1)

pub returns-clause-state : goal.returns-clause-state
returns-clause-state c =
    let nodes = c.args.schema.now in
    let id = c.args.id in
    let receivers = c.args.receivers.now in
    let ask = c.args.ask.now in
    let inside = c.self.inside in
    let state : JournalState = record { rows = inside.tree; policy = inside.policy; stamp = inside.stamp; position = inside.position; registry = inside.registry; receivers = inside.receivers } in
    let found = first_refusal (configure_reasons nodes state.registry id receivers ask) in
    let after : Subscriptions = with_configured state.registry (configured_terms nodes state.registry id receivers ask state.stamp) in
    subst (λ (s : JournalState). OnOk c.answer.result (c.answer.new.self ≡ next_state nodes s (Configure id receivers ask))) c.self.view_is
    (left_state c.answer.result c.configure-answer.result found state c.answer.new.self c.configure-answer.new.self after c.configure-answer.ensures.answer c.answer.ensures.told c.configure-answer.ensures.state c.configure-answer.ensures.unchanged c.answer.ensures.state)
