use Rattle.std.proofs.Common.{◌∙◌, ◌++◌, ◌∷◌, [], ap, arith}
use Rattle.yp_report.specs.declared.replied.Replied.{Replied}
use Rattle.yp_concurrent.proofs.Going.{is_ready, may_come, one_taken, position_is}
use Rattle.yp_concurrent.proofs.outside.take_one.Goals as goal

pub take_command-requires-clause-command : goal.take_command-requires-clause-command
take_command-requires-clause-command c =
    let s = c.args.setting.now in
    let here = c.requires.standing in
    may_come s.schema.now s.start.now s.receivers.now s.workers c.a_journal_goes_on_entry_by_entry.ensures.receivers here.entries c.args.standing.now here.is c.args.command c.requires.command

pub take_command-requires-clause-position : goal.take_command-requires-clause-position
take_command-requires-clause-position c =
    let s = c.args.setting.now in
    let here = c.requires.standing in
    let same = position_is s.schema.now s.start.now s.receivers.now s.workers c.a_journal_goes_on_entry_by_entry.ensures.position here.entries c.args.standing.now here.is in
    omega (arith, same, c.requires.room)

pub take_command-requires-clause-ready : goal.take_command-requires-clause-ready
take_command-requires-clause-ready c =
    let s = c.args.setting.now in
    let here = c.requires.standing in
    is_ready s.schema.now s.start.now s.receivers.now s.workers here.entries c.args.standing.now here.is

pub returns-clause-taken : goal.returns-clause-taken
returns-clause-taken c = λ entries at.
    let s = c.args.setting.now in
    one_taken s.schema.now s.start.now s.receivers.now s.workers c.a_journal_goes_on_entry_by_entry.ensures.entries c.a_legal_journal_goes_on.ensures.legal_more entries c.args.standing.now _ c.in_ok-entry.entry c.args.index c.args.command at
    c.in_ok-entry.ensures.lane c.in_ok-entry.ensures.index c.in_ok-entry.ensures.command c.in_ok-entry.ensures.follows c.in_ok-entry.ensures.state
    (c.in_ok-entry.ensures.served s.start.now s.receivers.now s.workers 0 entries at.runs at.crews)
    (c.in_ok-push.ensures.items ∙ ap (λ (replied : Replied). c.args.standing.now.replies.items ++ replied ∷ []) c.replied_by.ensures)
