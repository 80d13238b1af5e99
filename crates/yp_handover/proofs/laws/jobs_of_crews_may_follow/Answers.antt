use Rattle.yp_handover.proofs.Going.{all_ready}
use Rattle.yp_handover.proofs.laws.jobs_of_crews_may_follow.Goals as goal

pub returns : goal.returns
returns c = all_ready
