use Rattle.std.proofs.Common.{◌≡◌, Some, None, Err, ap, subst, sym, ◌∙◌}
use Rattle.yp_command.specs.declared.fault.ScriptKind.{ScriptKind}
use Rattle.yp_command.specs.declared.fault.ScriptKind.TheVariants as kinds
use Rattle.yp_command.specs.declared.halt.Halt.{Halt}
use Rattle.yp_command.specs.Readings.{beside}
use Rattle.yp_script.specs.Forms.{seen_form}
use Rattle.yp_script.specs.Order.{next_stage}
use Rattle.yp_script.specs.Readers.{Goes}
use Rattle.yp_script.specs.Script.{form_taken}
use Rattle.yp_script.proofs.StepLaws.{leads_seen, goes_on, goes_nowhere, halts_nowhere}
use Rattle.yp_script.proofs.reader.Reader.take_form.Goals as goal

pub returns-in_ok-take_values-in-Some : goal.returns-in_ok-take_values-in-Some
returns-in_ok-take_values-in-Some c =
    let leads : next_stage c.args.self.now.stage (seen_form c.args.form) ≡ Some c.in-Some.stage = leads_seen c.args.self.now.stage c.args.form ∙ sym c.next_stage.ensures ∙ c.in-Some.is in
    goes_on c.args.self.now c.take_values.new.self c.args.line (seen_form c.args.form) c.in-Some.stage leads c.in_ok-take_values-in-Some.ensures

pub returns-in-Ok : goal.returns-in-Ok
returns-in-Ok c =
    let leads : next_stage c.args.self.now.stage (seen_form c.args.form) ≡ None = leads_seen c.args.self.now.stage c.args.form ∙ sym c.next_stage.ensures ∙ c.in-None.is in
    rw c.misplaced-flaw.ensures (goes_nowhere c.args.self.now c.take_values-in-None.new.self c.args.line (seen_form c.args.form) leads c.in-Ok.ensures)

pub returns-in-Err : goal.returns-in-Err
returns-in-Err c =
    let leads : next_stage c.args.self.now.stage (seen_form c.args.form) ≡ None = leads_seen c.args.self.now.stage c.args.form ∙ sym c.next_stage.ensures ∙ c.in-None.is in
    let is : c.beside.result ≡ beside kinds.Order c.in-Err.halt = c.beside.ensures ∙ ap (λ (kind : ScriptKind). beside kind c.in-Err.halt) c.misplaced-flaw.ensures in
    subst (λ (halt : Halt). Goes {U = Unit {0}} (Err halt) c.args.self.now c.take_values-in-None.new.self c.args.line (λ progress. form_taken progress (seen_form c.args.form))) (sym is)
    (halts_nowhere c.args.self.now c.take_values-in-None.new.self c.args.line (seen_form c.args.form) c.in-Err.halt leads c.in-Err.ensures)
