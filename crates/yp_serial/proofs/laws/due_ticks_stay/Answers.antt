use Rattle.yp_serial.proofs.Offering.{step_due}
use Rattle.yp_serial.proofs.Serving.{advanced_due, run_due}
use Rattle.yp_serial.proofs.laws.due_ticks_stay.Goals as goal

pub returns-clause-entry : goal.returns-clause-entry
returns-clause-entry c = advanced_due

pub returns-clause-offer : goal.returns-clause-offer
returns-clause-offer c = step_due c.the_first_offer_is_found.ensures

pub returns-clause-run : goal.returns-clause-run
returns-clause-run c = run_due c.the_first_offer_is_found.ensures
