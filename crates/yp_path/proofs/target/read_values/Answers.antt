use Rattle.std.proofs.Common.{drop}
use Rattle.yp_path.proofs.Values.{stop_here}
use Rattle.yp_path.proofs.target.read_values.Goals as goal

pub returns-in-None : goal.returns-in-None
returns-in-None c =
    rw c.in_ok-keys-in-None.ensures
    (stop_here c.args.schema.now (drop c.loop-node.node-index c.args.asked.now) c.loop-node.rest.now c.loop-node.values.items _ c.in-None.ensures.cases c.loop-node.invariant)
