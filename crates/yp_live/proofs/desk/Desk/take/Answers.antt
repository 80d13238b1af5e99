use Rattle.std.proofs.Common.{◌∙◌, ap}
use Rattle.yp_live.specs.Desks.{desk_took}
use Rattle.yp_live.proofs.Taking.{took_more}
use Rattle.yp_live.proofs.desk.Desk.take.Goals as goal

pub loop-round-preserved : goal.loop-round-preserved
loop-round-preserved c = c.in_ok-take_one.ensures ∙ (ap (desk_took 1) c.loop-round.invariant ∙ took_more c.loop-round._round c.args.self.now)
