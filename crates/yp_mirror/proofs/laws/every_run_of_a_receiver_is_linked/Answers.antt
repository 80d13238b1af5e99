use Rattle.yp_mirror.proofs.Running.{run_linked}
use Rattle.yp_mirror.proofs.laws.every_run_of_a_receiver_is_linked.Goals as goal

pub returns : goal.returns
returns c = run_linked c.the_first_offer_is_found.ensures
