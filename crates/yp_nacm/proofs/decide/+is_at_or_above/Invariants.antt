use Rattle.std.proofs.Common.{length}
use Rattle.yp_nacm.proofs.decide.+is_at_or_above.Given as goal

abbrev pub decreases-is_at_or_above : goal.decreases-is_at_or_above
decreases-is_at_or_above l = length l.steps.now
