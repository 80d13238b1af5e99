use Rattle.std.proofs.Common.{ℕ, List, sym, subst}
use Rattle.std.proofs.lemmas.Result.{err_from_is_err_and}
use Rattle.yp_filter.specs.Filters.{Asked}
use Rattle.yp_registry.specs.Configuring.{configure_reasons}
use Rattle.yp_terms.specs.Refusals.{first_refusal}
use Rattle.yp_registry.specs.Registry.{Subscriptions, IsRegistryOf}
use Rattle.yp_registry.proofs.Establishing.{fails_alike}
use Rattle.yp_registry.proofs.Further.{configured_state, done_answer}
use Rattle.yp_registry.proofs.registry.Registry.configure.Goals as goal

pub returns-in_err-numbers-clause-answer : goal.returns-in_err-numbers-clause-answer
returns-in_err-numbers-clause-answer c =
    let p = err_from_is_err_and c.from_residual.result c.from_residual.ensures.1 in
    rw (p.1, p.2) (fails_alike {X = List ℕ × Asked} (first_refusal (configure_reasons c.args.schema.now c.args.self.now c.args.id c.args.receivers.now c.args.ask.now)) _ _ c.in_err-numbers.field-0.0 c.in_err-numbers.ensures)

pub returns-clause-answer : goal.returns-clause-answer
returns-clause-answer c = done_answer {X = List ℕ × Asked} (first_refusal (configure_reasons c.args.schema.now c.args.self.now c.args.id c.args.receivers.now c.args.ask.now)) _ _ c.in_ok-numbers.ensures

pub returns-clause-state : goal.returns-clause-state
returns-clause-state c = configured_state c.args.schema.now c.args.self.now c.add_configured.new.self c.args.id c.args.receivers.now c.args.ask.now c.args.now _ _ _ _ c.in_ok-numbers.ensures c.with_anchor-trigger.ensures c.from_configuration.ensures c.in_ok-add_configured.ensures.state

pub returns-clause-kept : goal.returns-clause-kept
returns-clause-kept c =
    let after : Subscriptions → Type 0 = λ registry. IsRegistryOf c.args.schema.now registry in
    let left = configured_state c.args.schema.now c.args.self.now c.add_configured.new.self c.args.id c.args.receivers.now c.args.ask.now c.args.now _ _ _ _ c.in_ok-numbers.ensures c.with_anchor-trigger.ensures c.from_configuration.ensures c.in_ok-add_configured.ensures.state in
    λ before. subst after (sym left) (c.a_configuration_keeps_a_registry.ensures c.args.schema.now c.args.self.now c.args.id c.args.receivers.now c.args.ask.now c.args.now c.requires.anchor c.requires.now before)
