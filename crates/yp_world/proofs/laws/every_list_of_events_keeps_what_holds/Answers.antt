use Rattle.yp_world.specs.World.{first_world}
use Rattle.yp_world.proofs.Events.{events_hold, first_holds, step_holds}
use Rattle.yp_world.proofs.laws.every_list_of_events_keeps_what_holds.Goals as goal

pub returns : goal.returns
returns c = record {
  first = first_holds;
  step = step_holds c.the_first_offer_is_found.ensures;
  events = λ setup events. events_hold c.the_first_offer_is_found.ensures setup (first_world setup) events (first_holds setup);
}
