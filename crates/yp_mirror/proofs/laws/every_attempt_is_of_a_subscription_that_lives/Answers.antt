use Rattle.yp_mirror.proofs.Living.{all_live}
use Rattle.yp_mirror.proofs.laws.every_attempt_is_of_a_subscription_that_lives.Goals as goal

pub returns : goal.returns
returns c = all_live c.the_first_offer_is_found.ensures
