use Rattle.yp_world.proofs.Doing.{is_accepted, meets_full}
use Rattle.yp_world.proofs.laws.an_offer_is_accepted_where_there_is_a_free_place.Goals as goal

pub returns : goal.returns
returns c = record { accepted = is_accepted c.the_first_offer_is_found.ensures; full = meets_full c.the_first_offer_is_found.ensures }
