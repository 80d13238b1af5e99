use Rattle.std.proofs.Common.{ap}
use Rattle.yp_queue_share.proofs.Sides.{takes}
use Rattle.yp_queue_share.proofs.passes.TakePass.take.Goals as goal

pub pop_as-requires-clause-rule : goal.pop_as-requires-clause-rule
pop_as-requires-clause-rule g c = (takes _ _ (ap (λ v. v.takes) c.self.invariant.1), λ items sides rule at. tt)
