use Rattle.yp_serial.proofs.Settling.{settled_fewer, worker_fewer}
use Rattle.yp_serial.proofs.laws.each_answer_leaves_fewer_offers.Goals as goal

pub returns-clause-run : goal.returns-clause-run
returns-clause-run c = settled_fewer c.the_first_offer_is_found.ensures

pub returns-clause-worker : goal.returns-clause-worker
returns-clause-worker c = worker_fewer c.the_first_offer_is_found.ensures c.a_look_changes_nothing.ensures.looked_twice
