use Rattle.std.proofs.Common.{◌≡◌, Ok, true, ap, sym, subst, ◌∙◌}
use Rattle.std.proofs.lemmas.Result.{err_from_is_err_and}
use Rattle.yp_filter.specs.Fits.{filter_fits}
use Rattle.yp_terms.specs.Refusals.{first_refusal}
use Rattle.yp_terms.specs.Terms.{asked_for}
use Rattle.yp_terms.specs.RefusalLaws.{not_refused}
use Rattle.yp_registry.specs.Registry.{Subscriptions, IsRegistryOf, reasons_against, with_terms}
use Rattle.yp_registry.proofs.Establishing.{fails_alike, terms_are, given_id, given_state, terms_kept}
use Rattle.yp_registry.proofs.registry.Registry.establish.Goals as goal

pub returns-in_err-id-clause-answer : goal.returns-in_err-id-clause-answer
returns-in_err-id-clause-answer c =
    let p = err_from_is_err_and c.from_residual.result c.from_residual.ensures.1 in
    rw (p.1, p.2) (fails_alike (first_refusal (reasons_against c.args.schema.now c.args.policy.now c.args.self.now c.args.by c.args.ask.now)) _ _ c.in_err-id.field-0.0 c.in_err-id.ensures.filter)

pub returns-clause-answer : goal.returns-clause-answer
returns-clause-answer c =
    let free = not_refused (first_refusal (reasons_against c.args.schema.now c.args.policy.now c.args.self.now c.args.by c.args.ask.now)) _ _ c.in_ok-id.ensures.filter in
    given_id c.args.schema.now c.args.policy.now c.args.self.now c.args.by c.args.ask.now c.args.now free.0 ∙ sym (ap Ok c.in_ok-id.ensures.id)

pub returns-clause-state : goal.returns-clause-state
returns-clause-state c =
    let free = not_refused (first_refusal (reasons_against c.args.schema.now c.args.policy.now c.args.self.now c.args.by c.args.ask.now)) _ _ c.in_ok-id.ensures.filter in
    let terms = terms_are c.args.schema.now c.args.policy.now c.args.self.now c.args.by c.args.ask.now c.args.now c.in_ok-dynamic.field-0 _ _ _ c.in_ok-dynamic.ensures c.in_ok-id.ensures.id free.1 c.with_anchor-trigger.ensures in
    c.in_ok-add.ensures.state ∙ ap (with_terms c.args.self.now) terms ∙ given_state c.args.schema.now c.args.policy.now c.args.self.now c.args.by c.args.ask.now c.args.now free.0

pub returns-clause-kept : goal.returns-clause-kept
returns-clause-kept c =
    let free = not_refused (first_refusal (reasons_against c.args.schema.now c.args.policy.now c.args.self.now c.args.by c.args.ask.now)) _ _ c.in_ok-id.ensures.filter in
    let terms = terms_are c.args.schema.now c.args.policy.now c.args.self.now c.args.by c.args.ask.now c.args.now c.in_ok-dynamic.field-0 _ _ _ c.in_ok-dynamic.ensures c.in_ok-id.ensures.id free.1 c.with_anchor-trigger.ensures in
    let fits : filter_fits c.args.schema.now (asked_for c.args.schema.now c.args.ask.now.filter) ≡ true = ap (filter_fits c.args.schema.now) free.1 ∙ c.in_ok-id.ensures.fits in
    let after : Subscriptions → Type 0 = λ registry. IsRegistryOf c.args.schema.now registry in
    λ before. subst after (sym (c.in_ok-add.ensures.state ∙ ap (with_terms c.args.self.now) terms))
    (terms_kept c.args.schema.now c.args.policy.now c.args.self.now c.args.by c.args.ask.now c.args.now free.0 c.requires.receiver c.requires.anchor c.requires.now fits before)
