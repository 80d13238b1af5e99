use Rattle.std.proofs.Common.{length}
use Rattle.yp_time.proofs.instant.+digits_worth.Given as goal

abbrev pub decreases-digits_worth : goal.decreases-digits_worth
decreases-digits_worth l = length l.text.now
