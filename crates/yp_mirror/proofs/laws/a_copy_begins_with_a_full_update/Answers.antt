use Rattle.yp_mirror.proofs.Promises.{copy_begins}
use Rattle.yp_mirror.proofs.laws.a_copy_begins_with_a_full_update.Goals as goal

pub returns : goal.returns
returns c = copy_begins c.every_run_of_a_receiver_is_linked.ensures
