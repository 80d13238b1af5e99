use Rattle.yp_serial.proofs.Queues.{run_never_full}
use Rattle.yp_serial.proofs.laws.an_automatic_receiver_is_never_full.Goals as goal

pub returns : goal.returns
returns c = run_never_full
