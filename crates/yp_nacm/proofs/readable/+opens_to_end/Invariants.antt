use Rattle.std.proofs.Common.{length, ◌-◌}
use Rattle.yp_nacm.proofs.readable.+opens_to_end.Given as goal

abbrev pub decreases-opens_to_end : goal.decreases-opens_to_end
decreases-opens_to_end l = length l.path.now - l.depth
