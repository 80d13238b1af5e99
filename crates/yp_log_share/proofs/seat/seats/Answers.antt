use Rattle.std.proofs.Common.{arith, ◌∙◌}
use Rattle.yp_log_share.proofs.Seats.{one_seat_more}
use Rattle.yp_log_share.proofs.seat.seats.Goals as goal

pub loop-lane-preserved : goal.loop-lane-preserved
loop-lane-preserved g c =
    let loop = c.loop-lane in
    let more = one_seat_more loop.seats.items c.push.new.self.items _ c.in_ok-push.ensures.items loop.invariant.order (omega (arith, loop.invariant.count)) loop.invariant.none c.new.ensures.items in record {
      count = more.0 ∙ omega (arith, loop.invariant.count);
      order = more.1;
      none = more.2;
      parts = omega (arith, more.0, loop.invariant.parts, c.split_off.ensures.parts_left);
      amount = omega (arith, loop.invariant.amount, c.split_off.ensures.amount_left);
    }
