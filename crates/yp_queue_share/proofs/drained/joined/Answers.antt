use Rattle.std.proofs.Common.{ap}
use Rattle.yp_queue_share.proofs.Sides.{joins}
use Rattle.yp_queue_share.proofs.drained.joined.Goals as goal

pub absorb-requires-clause-rule : goal.absorb-requires-clause-rule
absorb-requires-clause-rule g c = joins _ _ _ _ (ap (λ v. v.sends) c.send.invariant.1) (ap (λ v. v.takes) c.take.invariant.1)
