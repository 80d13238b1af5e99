use Rattle.yp_mirror.proofs.Promises.{never_fall, not_past}
use Rattle.yp_mirror.proofs.laws.positions_never_fall.Goals as goal

pub returns : goal.returns
returns c = record { updates = never_fall c.every_run_of_a_receiver_is_linked.ensures; offered = not_past c.every_run_of_a_receiver_is_linked.ensures }
