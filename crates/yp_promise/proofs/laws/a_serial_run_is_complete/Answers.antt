use Rattle.yp_attempt.specs.Attempts.{answers_in}
use Rattle.yp_moment.specs.Entries.{moments_of}
use Rattle.yp_moment.specs.Windows.{recorded}
use Rattle.yp_promise.specs.Serving.{all_numbers, queueing_of, run_of, taking_of}
use Rattle.yp_promise.proofs.Ticks.{all_due}
use Rattle.yp_promise.proofs.laws.a_serial_run_is_complete.Goals as goal

pub returns : goal.returns
returns c nodes receivers entries schema legal =
    let lawful = c.what_feeds_know_of_selections_is_lawful.ensures in
    let journal = moments_of nodes receivers entries in
    let served = run_of nodes receivers entries in
    let may = c.entries_of_a_legal_journal_may_follow.ensures nodes receivers entries schema legal in
    let due = all_due c.an_anchored_trigger_has_due_ticks.ensures journal (c.what_feeds_are_handed_can_be_followed.ensures nodes receivers entries legal) in
    let reaches = c.a_serial_run_is_a_run.ensures.reaches recorded lawful (all_numbers receivers) (queueing_of receivers) (taking_of entries) journal may due in
    record {
      all = c.what_is_reached_is_what_replaying_gives.ensures recorded (all_numbers receivers) journal (answers_in served.run.done) served.run reaches;
      idle = c.a_serial_run_is_a_run.ensures.idle recorded lawful (all_numbers receivers) (queueing_of receivers) (taking_of entries) journal due;
    }
