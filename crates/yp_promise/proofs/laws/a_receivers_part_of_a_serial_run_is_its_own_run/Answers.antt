use Rattle.yp_moment.specs.Entries.{moments_of}
use Rattle.yp_moment.specs.Windows.{recorded}
use Rattle.yp_promise.specs.Serving.{all_numbers, queueing_of, taking_of}
use Rattle.yp_promise.proofs.Own.{PartLaws, RunLaws, own_is, own_part, own_replay, part_reaches}
use Rattle.yp_promise.proofs.Ticks.{all_due}
use Rattle.yp_promise.proofs.laws.a_receivers_part_of_a_serial_run_is_its_own_run.Goals as goal

pub returns : goal.returns
returns c =
    let lawful = c.what_feeds_know_of_selections_is_lawful.ensures in
    let may = c.entries_of_a_legal_journal_may_follow.ensures in
    let laws : RunLaws = record { replays = c.what_is_reached_is_what_replaying_gives.ensures; runs = c.what_a_legal_journal_makes_is_a_run_of_its_story.ensures } in
    let parts : PartLaws = record {
      reaches = λ nodes receivers entries schema legal.
          c.a_serial_run_is_a_run.ensures.reaches recorded lawful (all_numbers receivers) (queueing_of receivers) (taking_of entries) (moments_of nodes receivers entries)
          (may nodes receivers entries schema legal) (all_due c.an_anchored_trigger_has_due_ticks.ensures (moments_of nodes receivers entries) (c.what_feeds_are_handed_can_be_followed.ensures nodes receivers entries legal));
      parts = c.a_receivers_part_of_a_run_is_its_own_run.ensures;
      one_of = c.a_receiver_is_one_of_those_of_its_worker.ensures;
    } in
    record {
      replays = λ nodes receivers entries receiver schema legal there. own_replay nodes receivers entries receiver (own_part nodes receivers entries receiver) laws (part_reaches nodes receivers entries receiver parts schema legal there);
      runs = λ nodes receivers entries receiver schema legal there. own_is nodes receivers entries receiver (own_part nodes receivers entries receiver) laws (part_reaches nodes receivers entries receiver parts schema legal there) schema legal;
      reaches = λ nodes receivers entries receiver schema legal there. part_reaches nodes receivers entries receiver parts schema legal there;
    }
