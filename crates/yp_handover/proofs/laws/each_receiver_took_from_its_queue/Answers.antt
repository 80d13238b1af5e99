use Rattle.yp_handover.proofs.Going.{all_of_one_queue}
use Rattle.yp_handover.proofs.laws.each_receiver_took_from_its_queue.Goals as goal

pub returns : goal.returns
returns c = all_of_one_queue
