use Rattle.yp_serial.proofs.Offering.{offered_on, offered_ends, offered_idle}
use Rattle.yp_serial.proofs.laws.a_serial_run_offers_until_nothing_is_offered.Goals as goal

pub returns-clause-goes_on : goal.returns-clause-goes_on
returns-clause-goes_on c = offered_on c.the_first_offer_is_found.ensures

pub returns-clause-ends : goal.returns-clause-ends
returns-clause-ends c = offered_ends

pub returns-clause-idle : goal.returns-clause-idle
returns-clause-idle c = offered_idle c.the_first_offer_is_found.ensures
