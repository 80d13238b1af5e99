use Rattle.std.proofs.Common.{◌≡◌, ◌∙◌, Some, None, Err, sym, ap, subst}
use Rattle.std.proofs.lemmas.Result.{err_from_is_err_and}
use Rattle.push_program.specs.declared.fault.NoText.{NoText}
use Rattle.push_program.specs.declared.job.Job.TheVariants.{Live}
use Rattle.push_program.specs.Making.{Makes}
use Rattle.push_program.specs.Jobs.{first_manual, manual_of}
use Rattle.push_program.proofs.texts.threads_text.Goals as goal

pub returns-in-Ok-Some : goal.returns-in-Ok-Some
returns-in-Ok-Some g c = λ bytes is.
    let first : first_manual c.args.script.receivers ≡ Some c.in-Ok-Some.receiver = sym (sym c.in-Ok-Some.field-0-is ∙ c.in-Ok-Some.ensures) in
    ap manual_of is ∙ first

pub returns-in_ok-report-in-Ok : goal.returns-in_ok-report-in-Ok
returns-in_ok-report-in-Ok g c = λ bytes is.
    let first : first_manual c.args.script.receivers ≡ None = sym (sym c.in-Ok-None.field-0-is ∙ c.in-Ok-None.ensures) in
    (ap manual_of is ∙ first, rw c.in_ok-report-in-Ok.ensures.text (c.in-Ok.ensures bytes is))

pub returns-in_err-report-in-Ok : goal.returns-in_err-report-in-Ok
returns-in_err-report-in-Ok g c = λ bytes is.
    let p = err_from_is_err_and c.from_residual.result c.from_residual.ensures.1 in
    rw (p.1, p.2) (subst (λ (fault : NoText). Makes (Live c.args.workers) bytes (Err fault)) (sym c.in_err-report-in-Ok.ensures.fault) tt)
