use Rattle.std.proofs.Common.{length}
use Rattle.yp_nacm.proofs.decide.+has_nodes_of.Given as goal

abbrev pub decreases-has_nodes_of : goal.decreases-has_nodes_of
decreases-has_nodes_of l = length l.steps.now
