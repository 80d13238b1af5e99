use Rattle.yp_promise.specs.Interleaving.{setup_of}
use Rattle.yp_promise.proofs.Interleaving.{InterleavingLaws, served_after}
use Rattle.yp_promise.proofs.interleavings.every_interleaving_serves_each_receiver.Goals as goal

pub returns : goal.returns
returns c nodes receivers entries schema legal = λ workers events some appended receiver there.
    let laws : InterleavingLaws = record {
      lawful = c.what_feeds_know_of_selections_is_lawful.ensures;
      leads = c.records_lead_from_selection_to_selection.ensures;
      holds = λ receivers workers events. c.every_list_of_events_keeps_what_holds.ensures.events (setup_of receivers workers) events;
      served = c.a_world_that_holds_serves_its_receivers.ensures;
      part = c.the_number_of_workers_does_not_matter.ensures.part;
      serves = c.every_run_of_a_receiver_serves_it.ensures.serves;
    } in
    served_after laws nodes receivers workers entries events schema legal some appended receiver there
