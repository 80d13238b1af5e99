use Rattle.std.proofs.Common.{◌≡◌, ◌∙◌, List, ap, subst, sym, string_bytes}
use Rattle.std.proofs.lemmas.Result.{IfOk-weaker}
use Rattle.yp_schema.specs.declared.schema.SchemaNode.{SchemaNode}
use Rattle.yp_live.specs.declared.script.Ran.{Ran}
use Rattle.yp_live.specs.Runs.{CanBeWritten, IsRunOf, text_from}
use Rattle.yp_live.proofs.Promises.{run_writable, tells}
use Rattle.yp_live.proofs.script.report_of_script.Goals as goal

pub text_of-requires-clause-desks : goal.text_of-requires-clause-desks
text_of-requires-clause-desks c =
    let script = c.args.script in
    let ran : Ran = c.in_ok-schema.field-0 in
    let is : IsRunOf script ran = c.in_ok-schema.ensures in
    subst (λ (nodes : List SchemaNode). CanBeWritten nodes ran.run.desks.items) (sym is.schema)
    (run_writable c.what_receivers_hold_can_be_shown.ensures script.schema script.start script.receivers is.entries ran.run is.is)

pub returns : goal.returns
returns c =
    let script = c.args.script in
    let ran : Ran = c.in_ok-schema.field-0 in
    let is : IsRunOf script ran = c.in_ok-schema.ensures in
    IfOk-weaker c.text_of.result (λ text. string_bytes text ≡ text_from ran.schema ran.run.replies.items ran.run.desks.items) _ (λ text told. λ bytes read.
    tells c.what_a_serial_run_makes_serves.ensures c.every_interleaving_serves_each_receiver.ensures c.an_interleaving_is_the_serial_run.ensures c.a_receiver_holds_what_its_lines_tell.ensures.took c.the_trees_of_lines_mirror.ensures.mirrors (record { complete = c.a_serial_run_is_complete.ensures; posts = c.queues_hold_what_was_not_taken.ensures.run; heard = c.each_line_is_heard_as_its_notification.ensures; lines = c.every_interleaving_is_heard.ensures })
    (record { serial = c.the_serial_turns_make_a_journal_of_the_script.ensures; turns = c.a_legal_journal_is_that_of_its_turns.ensures; many = c.a_journal_of_a_script_has_as_many_entries.ensures })
    c.a_scripts_commands_have_utf8.ensures script bytes ran read is (record { logs = c.the_lines_of_a_log_are_those_of_what_is_shown.ensures; replies = c.the_lines_of_replies_are_those_of_entries.ensures }) (string_bytes text)
    (told ∙ ap (λ (nodes : List SchemaNode). text_from nodes ran.run.replies.items ran.run.desks.items) is.schema)) c.text_of.ensures
