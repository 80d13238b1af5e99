use Rattle.std.proofs.Common.{refl}
use Rattle.yp_mirror.proofs.Promises.{suspends, suspension_told}
use Rattle.yp_mirror.proofs.laws.only_full_queues_suspend.Goals as goal

pub returns : goal.returns
returns c = record { begins = λ m n sub trigger configured receiver. refl; steps = suspends c.every_run_of_a_receiver_is_linked.ensures; told = suspension_told c.every_run_of_a_receiver_is_linked.ensures }
