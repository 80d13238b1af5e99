use Rattle.std.proofs.Common.{◌≡◌, ◌∙◌, ap₂, string_bytes}
use Rattle.std.proofs.lemmas.Result.{IfOk-weaker}
use Rattle.yp_live.specs.declared.script.Ran.{Ran}
use Rattle.yp_live.specs.Counts.{summary_from}
use Rattle.yp_live.specs.Runs.{IsRunOf}
use Rattle.yp_live.proofs.Promises.{sums}
use Rattle.yp_live.proofs.script.summary_by.Goals as goal

pub returns : goal.returns
returns g c =
    let script = c.args.script in
    let ran : Ran = c.in_ok-run.field-0 in
    let is : IsRunOf script ran = c.in_ok-run.ensures in
    IfOk-weaker c.summary_text.result (λ text. string_bytes text ≡ summary_from c.as_slice.result.now c.as_slice-2.result.now) _ (λ text told. λ bytes read.
    sums c.what_a_serial_run_makes_serves.ensures c.every_interleaving_serves_each_receiver.ensures c.an_interleaving_is_the_serial_run.ensures c.a_receiver_holds_what_its_lines_tell.ensures.took c.the_trees_of_lines_mirror.ensures.mirrors (record { complete = c.a_serial_run_is_complete.ensures; posts = c.queues_hold_what_was_not_taken.ensures.run; heard = c.each_line_is_heard_as_its_notification.ensures; lines = c.every_interleaving_is_heard.ensures })
    (record { serial = c.the_serial_turns_make_a_journal_of_the_script.ensures; turns = c.a_legal_journal_is_that_of_its_turns.ensures; many = c.a_journal_of_a_script_has_as_many_entries.ensures })
    c.a_scripts_commands_have_utf8.ensures script bytes ran read is (string_bytes text)
    (told ∙ ap₂ summary_from c.as_slice.ensures.value c.as_slice-2.ensures.value)) c.summary_text.ensures
