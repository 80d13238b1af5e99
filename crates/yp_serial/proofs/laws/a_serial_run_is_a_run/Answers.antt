use Rattle.yp_serial.proofs.Serving.{run_more, run_reached, run_idle}
use Rattle.yp_serial.proofs.laws.a_serial_run_is_a_run.Goals as goal

pub returns-clause-more : goal.returns-clause-more
returns-clause-more c = run_more

pub returns-clause-reaches : goal.returns-clause-reaches
returns-clause-reaches c = run_reached c.the_first_offer_is_found.ensures

pub returns-clause-idle : goal.returns-clause-idle
returns-clause-idle c = run_idle c.the_first_offer_is_found.ensures
