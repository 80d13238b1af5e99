use Rattle.std.proofs.Common.{length}
use Rattle.yp_time.proofs.form.+after_form.Given as goal

abbrev pub decreases-after_form : goal.decreases-after_form
decreases-after_form l = length l.form.now
