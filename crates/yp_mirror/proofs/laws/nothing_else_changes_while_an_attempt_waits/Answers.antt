use Rattle.yp_mirror.proofs.Promises.{steady}
use Rattle.yp_mirror.proofs.laws.nothing_else_changes_while_an_attempt_waits.Goals as goal

pub returns : goal.returns
returns c = steady c.every_run_of_a_receiver_is_linked.ensures
