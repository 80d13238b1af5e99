use Rattle.std.proofs.Common.{[], arith}
use Rattle.yp_concurrent.proofs.Going.{replies_count}
use Rattle.yp_concurrent.proofs.run.run_before.Goals as goal

pub take_all-requires-clause-standing : goal.take_all-requires-clause-standing
take_all-requires-clause-standing c = record { entries = []; is = c.in_ok-standing.ensures }

pub take_all-requires-clause-room : goal.take_all-requires-clause-room
take_all-requires-clause-room c =
    let s = c.args.setting.now in
    let none = replies_count s.schema.now s.start.now s.receivers.now s.workers [] _ c.in_ok-standing.ensures in
    omega (arith, none, c.requires.few)

pub returns : goal.returns
returns c = c.in_ok-take_all.ensures [] c.in_ok-standing.ensures
