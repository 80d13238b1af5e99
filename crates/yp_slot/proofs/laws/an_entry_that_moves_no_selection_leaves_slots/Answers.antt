use Rattle.yp_slot.proofs.Calls.{stays_here}
use Rattle.yp_slot.proofs.Entering.{passes_quietly}
use Rattle.yp_slot.proofs.laws.an_entry_that_moves_no_selection_leaves_slots.Goals as goal

pub returns : goal.returns
returns c = λ e before leaves slot track none stands.
    let laws = c.same_rules_are_one.ensures in
    let lasts = stays_here (record {
      amended = c.an_amendment_changes_one_subscription.ensures.found;
      not_amended = c.an_amendment_changes_one_subscription.ensures.others;
      gone = c.an_end_takes_one_subscription_away.ensures.found;
      not_gone = c.an_end_takes_one_subscription_away.ensures.others;
      not_configured = c.a_configuration_adds_one_subscription.ensures.others;
      fresh = c.an_id_is_configured_once.ensures.fresh;
      killed = c.a_call_that_is_done_has_its_subscription.ensures.killed;
      resynced = c.a_call_that_is_done_has_its_subscription.ensures.resynced;
      unconfigured = c.a_call_that_is_done_has_its_subscription.ensures.unconfigured;
      given = c.what_has_ended_stays_so.ensures.given;
      still = c.no_id_is_given_twice.ensures.stays;
      over = c.what_has_ended_stays_so.ensures.ended;
    }) e before leaves.entered slot.feed.sub none in
    passes_quietly (record { one = laws.one; itself = laws.itself }) c.absorbed_roots_are_those_of_the_window.ensures.roots e before slot track leaves none lasts stands
