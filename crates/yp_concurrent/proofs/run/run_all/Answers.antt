use Rattle.std.proofs.Common.{◌^◌, ◌++◌, arith}
use Rattle.yp_concurrent.proofs.Going.{replies_count}
use Rattle.yp_concurrent.proofs.Whole.{count_so_far, each_short, has_run}
use Rattle.yp_concurrent.proofs.run.run_all.Goals as goal

pub run_before-requires-clause-few : goal.run_before-requires-clause-few
run_before-requires-clause-few g c = omega (arith, c.requires.count)

pub take_lanes-requires-clause-standing : goal.take_lanes-requires-clause-standing
take_lanes-requires-clause-standing g c =
    let had = c.in_ok-standing.ensures in
    λ κs lives. record { entries = had.more; is = had.is }

pub take_lanes-requires-clause-few : goal.take_lanes-requires-clause-few
take_lanes-requires-clause-few g c = omega (arith, c.requires.lanes)

pub take_lanes-requires-clause-short : goal.take_lanes-requires-clause-short
take_lanes-requires-clause-short g c = λ κs lives. each_short (2 ^ 32) c.args.lanes (omega (arith, c.requires.count))

pub take_all-requires-clause-standing : goal.take_all-requires-clause-standing
take_all-requires-clause-standing g c =
    let had = c.in_ok-standing.ensures in
    let in_lanes = c.in_ok-standing-2.ensures had.more had.is in
    record { entries = had.more ++ in_lanes.taken.more; is = in_lanes.taken.is }

pub take_all-requires-clause-numbers : goal.take_all-requires-clause-numbers
take_all-requires-clause-numbers g c = omega (arith, c.len.ensures, c.requires.count)

pub take_all-requires-clause-room : goal.take_all-requires-clause-room
take_all-requires-clause-room g c =
    let s = c.args.setting.now in
    let many = c.a_journal_of_a_script_has_as_many_entries.ensures in
    let had = c.in_ok-standing.ensures in
    let in_lanes = c.in_ok-standing-2.ensures had.more had.is in
    let replies = replies_count s.schema.now s.start.now s.receivers.now s.workers (had.more ++ in_lanes.taken.more) _ in_lanes.taken.is in
    let count = count_so_far many s.schema.now s.start.now s.receivers.now s.workers c.args.before c.args.lanes _ _ had in_lanes in
    omega (arith, replies, count, c.requires.count)

pub returns : goal.returns
returns g c =
    let s = c.args.setting.now in
    let many = c.a_journal_of_a_script_has_as_many_entries.ensures in
    let had = c.in_ok-standing.ensures in
    let in_lanes = c.in_ok-standing-2.ensures had.more had.is in
    has_run many s.schema.now s.start.now s.receivers.now s.workers c.args.before c.args.lanes _ _ had in_lanes _ c.args.after _ (omega (arith, c.len.ensures)) c.requires.count
    (c.in_ok-take_all.ensures (had.more ++ in_lanes.taken.more) in_lanes.taken.is)
