use Rattle.std.proofs.Common.{◌+◌}
use Rattle.yp_log_share.proofs.Seats.{stand_longer}
use Rattle.yp_log_share.proofs.settle.taken.Goals as goal

pub returns-clause-stand : goal.returns-clause-stand
returns-clause-stand g c =
    let seat = c.seat.inside in
    rw (← c.seat.view_is) (stand_longer seat.lane (g.J.Naming.opening.position + 1) seat.calls.items seat.front.entries c.args.front.now.entries c.begins.ensures.entries c.seat.invariant.2)
