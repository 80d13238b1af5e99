use Rattle.yp_attempt.proofs.Offers.{found_first_offer}
use Rattle.yp_attempt.proofs.laws.the_first_offer_is_found.Goals as goal

pub returns : goal.returns
returns c = found_first_offer
