use Rattle.yp_attempt.proofs.WorkerSteps.{takes_entry}
use Rattle.yp_attempt.proofs.laws.a_worker_takes_the_next_entry.Goals as goal

pub returns : goal.returns
returns c = takes_entry
