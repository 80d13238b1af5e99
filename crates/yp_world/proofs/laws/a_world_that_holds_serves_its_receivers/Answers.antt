use Rattle.yp_world.proofs.Copies.{CopyLaws}
use Rattle.yp_world.proofs.Parts.{RunLaws}
use Rattle.yp_world.proofs.Serving.{AttemptLaws, served}
use Rattle.yp_world.proofs.laws.a_world_that_holds_serves_its_receivers.Goals as goal

pub returns : goal.returns
returns c setup lawful some world holds receiver small leads =
    let copies : CopyLaws = record {
      fresh = c.a_receivers_copy_is_fresh_after_each_update.ensures;
      begins = c.a_copy_begins_with_a_full_update.ensures;
      rising = c.positions_never_fall.ensures.updates;
    } in
    let laws : AttemptLaws = record {
      suspends = c.only_full_queues_suspend.ensures.told;
      eighth = c.only_full_queues_suspend.ensures.steps;
      leaves_out = c.incomplete_updates_follow_full_queues.ensures.told;
      freezes = c.incomplete_updates_follow_full_queues.ensures.steps;
      carries = c.the_next_resynchronisation_carries_its_own_positions_selection.ensures.carries;
      here = c.the_next_resynchronisation_carries_its_own_positions_selection.ensures.position;
      tells = c.a_journal_tells_its_story.ensures;
      linked = c.every_run_of_a_receiver_is_linked.ensures;
    } in
    let runs : RunLaws = record {
      part = c.a_receivers_part_of_a_run_is_its_own_run.ensures;
      replays = c.what_is_reached_is_what_replaying_gives.ensures;
    } in
    served copies laws runs setup lawful some world holds receiver small leads
