use Rattle.std.proofs.Common.{◌∙◌, sym}
use Rattle.std.proofs.lemmas.Result.{IfOk-weaker}
use Rattle.yp_threads.proofs.life.live.Goals as goal

pub returns-in-Ok-clause-lanes : goal.returns-in-Ok-clause-lanes
returns-in-Ok-clause-lanes g c = IfOk-weaker c.close.result _ _ (λ beside all. all c.args.lanes (sym c.requires.parts.1) (c.in-Ok).ensures.lanes) c.close.ensures.lanes
