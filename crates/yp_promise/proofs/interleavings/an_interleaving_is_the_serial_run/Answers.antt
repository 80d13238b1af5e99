use Rattle.std.proofs.Common.{ℕ, map, subst}
use Rattle.yp_attempt.specs.Workers.{numbers_of}
use Rattle.yp_moment.specs.Entries.{moments_of}
use Rattle.yp_moment.specs.Windows.{recorded}
use Rattle.yp_serial.specs.Serial.{serial_run}
use Rattle.yp_world.specs.Serially.{LeadTo}
use Rattle.yp_world.specs.World.{first_world}
use Rattle.yp_promise.specs.Interleaving.{setup_of}
use Rattle.yp_promise.specs.Serving.{queueing_of, taking_of}
use Rattle.yp_promise.proofs.Interleaving.{have_places, many_places}
use Rattle.yp_promise.proofs.Ticks.{all_due}
use Rattle.yp_promise.proofs.interleavings.an_interleaving_is_the_serial_run.Goals as goal

pub returns : goal.returns
returns c nodes receivers entries schema legal =
    let due = all_due c.an_anchored_trigger_has_due_ticks.ensures (moments_of nodes receivers entries) (c.what_feeds_are_handed_can_be_followed.ensures nodes receivers entries legal) in
    let may = c.entries_of_a_legal_journal_may_follow.ensures nodes receivers entries schema legal in
    let journal = moments_of nodes receivers entries in
    subst
    (λ (n : ℕ). LeadTo (setup_of receivers 1) (first_world (setup_of receivers 1)) journal (serial_run recorded (numbers_of 0 1 n) (queueing_of receivers) (taking_of entries) journal))
    (many_places receivers)
    (c.a_serial_run_is_a_list_of_events.ensures recorded c.what_feeds_know_of_selections_is_lawful.ensures (queueing_of receivers) (map (λ receiver. receiver.places) receivers) (have_places receivers) (taking_of entries) journal may due)
