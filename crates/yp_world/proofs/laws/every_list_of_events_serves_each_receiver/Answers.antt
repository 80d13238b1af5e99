use Rattle.yp_world.specs.World.{after_events, first_world}
use Rattle.yp_world.proofs.laws.every_list_of_events_serves_each_receiver.Goals as goal

pub returns : goal.returns
returns c setup lawful some events receiver small leads =
    c.a_world_that_holds_serves_its_receivers.ensures setup lawful some (after_events setup (first_world setup) events) (c.every_list_of_events_keeps_what_holds.ensures.events setup events) receiver small leads
