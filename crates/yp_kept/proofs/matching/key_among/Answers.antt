use Rattle.std.proofs.Common.{drop}
use Rattle.yp_kept.proofs.Keys.{none_left}
use Rattle.yp_kept.proofs.matching.key_among.Goals as goal

pub returns-in-None : goal.returns-in-None
returns-in-None c = none_left c.args.node (drop c.loop-key.key-index c.args.keys.now) c.loop-key.rest.now _ c.loop-key.invariant c.in-None.ensures.cases
