use Rattle.yp_world.proofs.Doing.{nothing_changes, nothing_exactly}
use Rattle.yp_world.proofs.laws.nothing_happens_where_an_event_cannot_be_done.Goals as goal

pub returns : goal.returns
returns c = record { exactly = nothing_exactly c.the_first_offer_is_found.ensures; changes = nothing_changes }
