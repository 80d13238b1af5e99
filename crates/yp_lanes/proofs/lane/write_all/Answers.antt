use Rattle.std.proofs.Common.{arith, sym, ap, ◌∙◌}
use Rattle.std.proofs.lemmas.Grind.{common_steps}
use Rattle.std.proofs.lemmas.List.{take_more}
use Rattle.yp_log_share.specs.Seats.{Seat}
use Rattle.yp_lanes.proofs.Numbers.{accepted, call_numbered, same_numbered}
use Rattle.yp_lanes.proofs.lane.write_all.Goals as goal

pub loop-command-preserved : goal.loop-command-preserved
loop-command-preserved g c =
    let command = c.command-item.result in
    let before = c.loop-command.seat in
    let after = c.submit.new.seat in
    let called = accepted c.submit.result command before after (sym c.is_err.ensures.value ∙ c.if-is_err.false) c.submit.ensures.called in
    let is = called.1 in
    let more = take_more c.args.commands.now c.loop-command.command-index command c.loop-command-test.true in
    record {
      lane = ap (λ (seat : Seat). seat.lane) is ∙ c.loop-command.invariant.lane;
      all = grind (arith, common_steps, is, more, c.command-item.is);
      count = grind (arith, common_steps, is);
      numbered = λ are. call_numbered command called.0 before after is (c.loop-command.invariant.numbered are);
    }

pub returns-then-is_err-clause-numbered : goal.returns-then-is_err-clause-numbered
returns-then-is_err-clause-numbered g c = λ are.
    same_numbered c.submit.result c.loop-command.seat c.submit.new.seat (sym c.is_err.ensures.value ∙ c.if-is_err.true) c.submit.ensures.same (c.loop-command.invariant.numbered are)
