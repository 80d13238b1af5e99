use Rattle.std.proofs.Common.{refl}
use Rattle.yp_mirror.proofs.Promises.{freezes, incomplete_told}
use Rattle.yp_mirror.proofs.laws.incomplete_updates_follow_full_queues.Goals as goal

pub returns : goal.returns
returns c = record { begins = λ m n sub trigger configured receiver. refl; steps = freezes c.every_run_of_a_receiver_is_linked.ensures; told = incomplete_told c.every_run_of_a_receiver_is_linked.ensures }
