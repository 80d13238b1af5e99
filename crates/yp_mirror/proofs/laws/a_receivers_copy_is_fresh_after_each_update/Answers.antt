use Rattle.yp_mirror.proofs.Promises.{copy_fresh}
use Rattle.yp_mirror.proofs.laws.a_receivers_copy_is_fresh_after_each_update.Goals as goal

pub returns : goal.returns
returns c = copy_fresh c.every_run_of_a_receiver_is_linked.ensures
