use Rattle.yp_handover.proofs.Going.{all_back}
use Rattle.yp_handover.proofs.laws.workers_that_are_back_got_all.Goals as goal

pub returns : goal.returns
returns c = all_back
