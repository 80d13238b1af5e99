use Rattle.std.proofs.Common.{sym, ap, [], ◌∷◌}
use Rattle.yp_attempt.specs.Attempts.{answers_in}
use Rattle.yp_attempt.specs.ListLaws.{all_weaker}
use Rattle.yp_attempt.specs.Runs.{Run}
use Rattle.yp_mirror.specs.Living.{IsOfLiving}
use Rattle.yp_moment.specs.Entries.{moments_of}
use Rattle.yp_moment.specs.Windows.{recorded}
use Rattle.yp_promise.specs.Promise.{IsOfLiveAt}
use Rattle.yp_promise.proofs.Copies.{CopyLaws, GoesByAsk, copies_begin, copies_fresh, positions_rise}
use Rattle.yp_promise.proofs.Offers.{ConcealLaws, OfferLaws, all_concealed, all_here, freezes_after_full, full_at_rising_stamps, leaves_out_after_full, resyncs_carry, suspends_after_eight, suspends_at_eighth}
use Rattle.yp_promise.proofs.Own.{RunLaws, own_is, own_replay, own_rows}
use Rattle.yp_promise.proofs.Showing.{held_writable}
use Rattle.yp_promise.proofs.runs.every_run_of_a_receiver_serves_it.Goals as goal

pub returns-clause-serves : goal.returns-clause-serves
returns-clause-serves c nodes receivers entries receiver run schema legal reaches got waiting accepted =
    let tells = c.a_legal_journal_tells_what_is_selected.ensures in
    let hides = c.attempts_name_nothing_unreadable.ensures in
    let carries = c.the_next_resynchronisation_carries_its_own_positions_selection.ensures in
    let laws : RunLaws = record { replays = c.what_is_reached_is_what_replaying_gives.ensures; runs = c.what_a_legal_journal_makes_is_a_run_of_its_story.ensures } in
    let of = own_is nodes receivers entries receiver run laws reaches schema legal in
    let same = own_replay nodes receivers entries receiver run laws reaches in
    let rows = own_rows nodes receivers entries receiver run c.every_attempt_tells_of_what_was_selected.ensures.made c.a_journal_keeps_a_datastore.ensures.entries of in
    let goes : GoesByAsk nodes receivers entries receiver = (λ id ask gives. (
      tells.mirrored nodes receivers entries receiver schema legal gives.before gives.entry gives.after id ask gives.parts gives.grants,
      tells.resyncing nodes receivers entries receiver schema legal gives.before gives.entry gives.after id ask gives.parts gives.grants,
    )) in
    let copies : CopyLaws = record {
      fresh = c.a_receivers_copy_is_fresh_after_each_update.ensures;
      begins = c.a_copy_begins_with_a_full_update.ensures;
      rising = c.positions_never_fall.ensures.updates;
    } in
    let offers : OfferLaws = record {
      suspends = c.only_full_queues_suspend.ensures.told;
      leaves_out = c.incomplete_updates_follow_full_queues.ensures.told;
      stamps = c.full_answers_come_at_rising_stamps.ensures;
      eighth = c.only_full_queues_suspend.ensures.steps;
      freezes = c.incomplete_updates_follow_full_queues.ensures.steps;
      carries = carries.carries;
      here = carries.position;
    } in
    let conceals : ConcealLaws = record { made = hides.made; offered = hides.offered } in
    let journal = moments_of nodes receivers entries in
    let lives = c.every_attempt_is_of_a_subscription_that_lives.ensures recorded receiver journal (answers_in run.done) run reaches in
    record {
      own = ap (λ (it : Run). it.done) (sym same);
      here = all_here (receiver ∷ []) (moments_of nodes receivers entries) (answers_in run.done) run reaches;
      lives = lives;
      live = all_weaker (IsOfLiving receiver journal) (IsOfLiveAt nodes receivers entries receiver) run.done
          (λ a h update. c.what_has_a_receiver_is_live_until_it_ends.ensures nodes receivers entries legal receiver a.sub a.at h.has (h.lives update)) lives;
      waiting = waiting;
      accepted = accepted;
      mirrors = copies_fresh nodes receivers entries receiver run got waiting copies of goes rows accepted;
      begins = copies_begin nodes receivers entries receiver run got waiting copies of goes rows accepted;
      rising = positions_rise nodes receivers entries receiver run got waiting copies of goes rows accepted;
      concealed = all_concealed nodes receivers entries receiver run conceals schema legal same;
      suspends = suspends_after_eight nodes receivers entries receiver run offers of;
      stamps = full_at_rising_stamps nodes receivers entries receiver run offers of;
      eighth = suspends_at_eighth nodes receivers entries receiver run offers of same;
      leaves_out = leaves_out_after_full nodes receivers entries receiver run offers of;
      freezes = freezes_after_full nodes receivers entries receiver run offers of same;
      resynchronises = resyncs_carry nodes receivers entries receiver run offers of goes;
    }

pub returns-clause-shown : goal.returns-clause-shown
returns-clause-shown c nodes receivers entries receiver run schema legal reaches got waiting accepted =
    let laws : RunLaws = record { replays = c.what_is_reached_is_what_replaying_gives.ensures; runs = c.what_a_legal_journal_makes_is_a_run_of_its_story.ensures } in
    let of = own_is nodes receivers entries receiver run laws reaches schema legal in
    held_writable nodes run.done got waiting (own_rows nodes receivers entries receiver run c.every_attempt_tells_of_what_was_selected.ensures.made c.a_journal_keeps_a_datastore.ensures.entries of) accepted
