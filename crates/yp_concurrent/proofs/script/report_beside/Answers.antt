use Rattle.std.proofs.Common.{◌≡◌, ◌∙◌, ℕ, List, length, map, ap, subst, sym, string_bytes, arith}
use Rattle.std.proofs.lemmas.Result.{IfOk-weaker}
use Rattle.yp_schema.specs.declared.schema.SchemaNode.{SchemaNode}
use Rattle.yp_journal.specs.declared.receiver.ReceiverInfo.{ReceiverInfo}
use Rattle.yp_attempt.specs.Runs.{Run}
use Rattle.yp_crews.specs.declared.crew.Crew.{Crew}
use Rattle.yp_concurrent.specs.declared.script.Ran.{Ran}
use Rattle.yp_concurrent.specs.Running.{IsRunOf}
use Rattle.yp_concurrent.specs.Texts.{HaveLogs, text_beside}
use Rattle.yp_concurrent.proofs.Going.{replies_count, workers_are}
use Rattle.yp_concurrent.proofs.Promises.{tells}
use Rattle.yp_concurrent.proofs.Told.{crews_have}
use Rattle.yp_concurrent.proofs.script.report_beside.Goals as goal

pub text_of-requires-clause-replies : goal.text_of-requires-clause-replies
text_of-requires-clause-replies g c =
    let script = c.args.script in
    let ran : Ran = c.in_ok-schema.field-0 in
    let is : IsRunOf script c.args.workers ran = c.in_ok-schema.ensures in
    let count = replies_count script.schema script.start script.receivers c.args.workers is.run.entries ran.standing is.run.is in
    omega (arith, count, is.run.few)

pub text_of-requires-clause-some : goal.text_of-requires-clause-some
text_of-requires-clause-some g c =
    let script = c.args.script in
    let ran : Ran = c.in_ok-schema.field-0 in
    let is : IsRunOf script c.args.workers ran = c.in_ok-schema.ensures in
    let count = workers_are script.schema script.start script.receivers c.args.workers is.run.entries ran.standing is.run.is in
    omega (arith, count, c.requires.workers.0)

pub text_of-requires-clause-few : goal.text_of-requires-clause-few
text_of-requires-clause-few g c =
    let script = c.args.script in
    let ran : Ran = c.in_ok-schema.field-0 in
    let is : IsRunOf script c.args.workers ran = c.in_ok-schema.ensures in
    let same = ap (λ (receivers : List ReceiverInfo). length receivers) (c.items.ensures ∙ is.receivers) in
    omega (arith, same, c.requires.receivers.few)

pub text_of-requires-clause-logs : goal.text_of-requires-clause-logs
text_of-requires-clause-logs g c =
    let script = c.args.script in
    let ran : Ran = c.in_ok-schema.field-0 in
    let is : IsRunOf script c.args.workers ran = c.in_ok-schema.ensures in
    record {
      start = script.start;
      runs = is.run.is.runs;
      have =
          subst (λ (nodes : List SchemaNode). HaveLogs nodes script.start is.run.is.runs (map (λ (crew : Crew). crew.listeners) ran.standing.crews.items)) (sym is.schema)
          (crews_have script.schema script.start script.receivers c.args.workers 0 is.run.entries is.run.is.runs ran.standing.crews.items is.run.is.crews);
    }

pub returns : goal.returns
returns g c =
    let script = c.args.script in
    let ran : Ran = c.in_ok-schema.field-0 in
    let is : IsRunOf script c.args.workers ran = c.in_ok-schema.ensures in
    IfOk-weaker c.text_of.result
    (λ text. (start : ℕ) (runs : List Run) → HaveLogs ran.schema start runs (map (λ (crew : Crew). crew.listeners) ran.standing.crews.items) → string_bytes text ≡ text_beside ran.schema start c.items.result.now ran.standing.replies.items runs) _
    (λ text told. λ bytes read.
    tells c.the_lines_of_replies_are_those_of_entries.ensures bytes script c.args.workers ran.standing read is.run
    (c.a_run_by_threads_serves_each_receiver.ensures bytes script c.args.workers ran.standing read c.requires.receivers is.start c.requires.workers.0 is.run) (string_bytes text)
    (told script.start is.run.is.runs
    (subst (λ (nodes : List SchemaNode). HaveLogs nodes script.start is.run.is.runs (map (λ (crew : Crew). crew.listeners) ran.standing.crews.items)) (sym is.schema)
    (crews_have script.schema script.start script.receivers c.args.workers 0 is.run.entries is.run.is.runs ran.standing.crews.items is.run.is.crews))
    ∙ (λ i. text_beside (is.schema i) script.start ((c.items.ensures ∙ is.receivers) i) ran.standing.replies.items is.run.is.runs))) c.text_of.ensures
