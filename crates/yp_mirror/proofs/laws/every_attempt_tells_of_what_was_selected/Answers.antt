use Rattle.yp_mirror.proofs.Promises.{attempt_made, attempt_from, attempt_offered}
use Rattle.yp_mirror.proofs.laws.every_attempt_tells_of_what_was_selected.Goals as goal

pub returns : goal.returns
returns c = record { made = attempt_made c.every_run_of_a_receiver_is_linked.ensures; from = attempt_from c.every_run_of_a_receiver_is_linked.ensures; offered = attempt_offered c.every_run_of_a_receiver_is_linked.ensures }
