use Rattle.std.proofs.Common.{sym, subst}
use Rattle.std.proofs.lemmas.Result.{err_from_is_err_and}
use Rattle.yp_registry.specs.Amending.{reconfigure_reasons}
use Rattle.yp_terms.specs.Refusals.{first_refusal}
use Rattle.yp_registry.specs.Registry.{Subscriptions, IsRegistryOf}
use Rattle.yp_registry.proofs.Establishing.{fails_alike}
use Rattle.yp_registry.proofs.Further.{amended_state, done_answer}
use Rattle.yp_registry.proofs.registry.Registry.reconfigure.Goals as goal

pub returns-in_err-filter-clause-answer : goal.returns-in_err-filter-clause-answer
returns-in_err-filter-clause-answer c =
    let p = err_from_is_err_and c.from_residual.result c.from_residual.ensures.1 in
    rw (p.1, p.2) (fails_alike (first_refusal (reconfigure_reasons c.args.schema.now c.args.self.now c.args.id c.args.amend.now)) _ _ c.in_err-filter.field-0.0 c.in_err-filter.ensures)

pub returns-clause-answer : goal.returns-clause-answer
returns-clause-answer c = done_answer (first_refusal (reconfigure_reasons c.args.schema.now c.args.self.now c.args.id c.args.amend.now)) _ _ c.in_ok-filter.ensures

pub returns-clause-state : goal.returns-clause-state
returns-clause-state c = amended_state (first_refusal (reconfigure_reasons c.args.schema.now c.args.self.now c.args.id c.args.amend.now)) c.args.self.now c.amend.new.self c.args.id c.args.now c.args.schema.now c.args.amend.now _ c.in_ok-filter.ensures c.amend.ensures

pub returns-clause-kept : goal.returns-clause-kept
returns-clause-kept c =
    let after : Subscriptions → Type 0 = λ registry. IsRegistryOf c.args.schema.now registry in
    let left = amended_state (first_refusal (reconfigure_reasons c.args.schema.now c.args.self.now c.args.id c.args.amend.now)) c.args.self.now c.amend.new.self c.args.id c.args.now c.args.schema.now c.args.amend.now _ c.in_ok-filter.ensures c.amend.ensures in
    λ before. subst after (sym left) (c.an_amendment_keeps_a_registry.ensures.reconfigured c.args.schema.now c.args.self.now c.args.id c.args.amend.now c.args.now c.requires.anchor c.requires.now before)
