use Rattle.std.proofs.Common.{arith}
use Rattle.yp_concurrent.proofs.Going.{all_may_come, beside_taken, is_ready, workers_are}
use Rattle.yp_concurrent.proofs.lanes.take_beside.Goals as goal

pub go_on_beside-requires-clause-some : goal.go_on_beside-requires-clause-some
go_on_beside-requires-clause-some g c =
    let s = c.args.setting.now in
    let here = c.requires.standing in
    let same = workers_are s.schema.now s.start.now s.receivers.now s.workers here.entries c.args.standing here.is in
    omega (arith, same, c.requires.workers.0)

pub go_on_beside-requires-clause-workers : goal.go_on_beside-requires-clause-workers
go_on_beside-requires-clause-workers g c =
    let s = c.args.setting.now in
    let here = c.requires.standing in
    let same = workers_are s.schema.now s.start.now s.receivers.now s.workers here.entries c.args.standing here.is in
    omega (arith, same, c.requires.workers.1)

pub go_on_beside-requires-clause-commands : goal.go_on_beside-requires-clause-commands
go_on_beside-requires-clause-commands g c =
    let s = c.args.setting.now in
    let here = c.requires.standing in
    λ κs lives. all_may_come s.schema.now s.start.now s.receivers.now s.workers c.a_journal_goes_on_entry_by_entry.ensures.receivers here.entries c.args.standing here.is c.args.lanes c.requires.commands

pub go_on_beside-requires-clause-ready : goal.go_on_beside-requires-clause-ready
go_on_beside-requires-clause-ready g c =
    let s = c.args.setting.now in
    let here = c.requires.standing in
    λ κs lives. is_ready s.schema.now s.start.now s.receivers.now s.workers here.entries c.args.standing here.is

pub returns : goal.returns
returns g c = λ entries at.
    let s = c.args.setting.now in
    let beside = c.in_ok-entries.ensures in
    let both = c.a_journal_goes_on_where_another_ends.ensures in
    beside_taken s.schema.now s.start.now s.receivers.now s.workers both.state both.legal entries c.in_ok-entries.field-0.entries.items c.args.lanes c.args.standing _ at
    beside.legal beside.state beside.lanes (beside.served s.start.now s.workers 0 entries at.runs at.legal at.state at.crews) c.in_ok-add_replies.ensures
