use Rattle.std.proofs.Common.{refl}
use Rattle.yp_moment.specs.Entries.{moments_of}
use Rattle.yp_moment.specs.Windows.{recorded}
use Rattle.yp_promise.proofs.Going.{ServingLaws, entered_serving, none_serving, serving_ends, settled_fewer, settled_serving, weights_most}
use Rattle.yp_promise.proofs.Ticks.{all_due}
use Rattle.yp_promise.proofs.laws.a_serial_run_goes_on_offer_by_offer.Goals as goal

pub returns : goal.returns
returns c =
    let runs = c.a_serial_run_is_a_run.ensures in
    let offers = c.a_serial_run_offers_until_nothing_is_offered.ensures in
    let ticks = c.due_ticks_stay.ensures in
    let laws : ServingLaws = record {
      lawful = c.what_feeds_know_of_selections_is_lawful.ensures;
      finds = c.the_first_offer_is_found.ensures;
      moments = c.one_entry_more_is_one_moment_more.ensures;
      may = c.entries_of_a_legal_journal_may_follow.ensures;
      due = λ nodes receivers entries schema legal. all_due c.an_anchored_trigger_has_due_ticks.ensures (moments_of nodes receivers entries) (c.what_feeds_are_handed_can_be_followed.ensures nodes receivers entries legal);
      reaches = runs.reaches;
      idle = runs.idle;
      goes_on = offers.goes_on;
      ends = offers.ends;
      fewer = c.each_answer_leaves_fewer_offers.ensures.run;
      due_entry = ticks.entry;
      due_offer = ticks.offer;
      due_run = ticks.run;
      more = c.a_serial_run_goes_on_entry_by_entry.ensures.more;
    } in
    record {
      none = none_serving;
      enters = λ nodes receivers entries entry schema legal. entered_serving laws nodes receivers entries entry schema legal;
      settles = λ nodes receivers entries served found serving there. settled_serving laws nodes receivers entries served serving found there;
      fewer = λ nodes receivers entries served found serving there. settled_fewer laws nodes receivers entries served serving found there;
      stamp = λ receivers served found. refl;
      most = λ served. weights_most recorded served.run.standing.stamp served.run.standing.tracks;
      ends = λ nodes receivers entries served serving none. serving_ends laws nodes receivers entries served serving none;
    }
