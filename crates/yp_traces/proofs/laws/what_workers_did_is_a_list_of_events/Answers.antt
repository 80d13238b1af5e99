use Rattle.yp_traces.proofs.Tracing.{has_trace}
use Rattle.yp_traces.proofs.laws.what_workers_did_is_a_list_of_events.Goals as goal

pub returns : goal.returns
returns c setup some journal legal runs many work = has_trace c.the_first_offer_is_found.ensures setup (c.every_list_of_events_keeps_what_holds.ensures.first setup) some journal legal runs many work
