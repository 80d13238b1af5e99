use Rattle.yp_mirror.proofs.Promises.{resync_carries, resync_here}
use Rattle.yp_mirror.proofs.laws.the_next_resynchronisation_carries_its_own_positions_selection.Goals as goal

pub returns : goal.returns
returns c = record { carries = resync_carries c.every_run_of_a_receiver_is_linked.ensures; position = resync_here c.every_run_of_a_receiver_is_linked.ensures }
