use Rattle.yp_attempt.proofs.WorkerSteps.{finds_offer}
use Rattle.yp_attempt.proofs.laws.a_worker_finds_what_its_run_offers.Goals as goal

pub returns : goal.returns
returns c = finds_offer
