use Rattle.std.proofs.Common.{ap}
use Rattle.yp_queue_share.proofs.Sides.{sends, holds_last}
use Rattle.yp_queue_share.proofs.passes.SendPass.offer.Goals as goal

pub push_as-requires-clause-rule : goal.push_as-requires-clause-rule
push_as-requires-clause-rule g c =
    let may = ap (λ v. v.sends) c.self.invariant.1 in
    (sends _ _ _ _ may, holds_last _ _ may)
