use Rattle.std.proofs.Common.{rules}
use Rattle.yp_queue_share.proofs.Sides.{begins, parts}
use Rattle.yp_queue_share.proofs.passes.shared.Goals as goal

pub ruled-requires-clause-rule : goal.ruled-requires-clause-rule
ruled-requires-clause-rule c = begins

pub another-taker-requires-clause-rule : goal.another-taker-requires-clause-rule
another-taker-requires-clause-rule c = parts _ _ (search rules) (search rules)
