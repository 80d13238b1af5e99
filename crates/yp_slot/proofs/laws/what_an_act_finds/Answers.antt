use Rattle.std.proofs.Common.{subst, length}
use Rattle.std.specs.List.{AllByRecursion}
use Rattle.yp_terms.specs.Terms.{AreTermsOf}
use Rattle.yp_slot.specs.LiveLaws.{found_has}
use Rattle.yp_slot.proofs.Calls.{ended_here, modified_here, resynced_here}
use Rattle.yp_slot.proofs.Entering.{comes_after, receivers_after}
use Rattle.yp_slot.proofs.laws.what_an_act_finds.Goals as goal

pub returns-clause-receivers : goal.returns-clause-receivers
returns-clause-receivers c = λ e before entered. receivers_after e.present.schema.now before e.present.state.now e.entry.now.command entered.after

pub returns-clause-modified : goal.returns-clause-modified
returns-clause-modified c = λ e before entered. modified_here (record {
  amended = c.an_amendment_changes_one_subscription.ensures.found;
  not_amended = c.an_amendment_changes_one_subscription.ensures.others;
  gone = c.an_end_takes_one_subscription_away.ensures.found;
  not_gone = c.an_end_takes_one_subscription_away.ensures.others;
  not_configured = c.a_configuration_adds_one_subscription.ensures.others;
  fresh = c.an_id_is_configured_once.ensures.fresh;
  killed = c.a_call_that_is_done_has_its_subscription.ensures.killed;
  resynced = c.a_call_that_is_done_has_its_subscription.ensures.resynced;
  unconfigured = c.a_call_that_is_done_has_its_subscription.ensures.unconfigured;
  given = c.what_has_ended_stays_so.ensures.given;
  still = c.no_id_is_given_twice.ensures.stays;
  over = c.what_has_ended_stays_so.ensures.ended;
}) e before entered

pub returns-clause-resynced : goal.returns-clause-resynced
returns-clause-resynced c = λ e before entered sub is.
    let found = resynced_here (record {
      amended = c.an_amendment_changes_one_subscription.ensures.found;
      not_amended = c.an_amendment_changes_one_subscription.ensures.others;
      gone = c.an_end_takes_one_subscription_away.ensures.found;
      not_gone = c.an_end_takes_one_subscription_away.ensures.others;
      not_configured = c.a_configuration_adds_one_subscription.ensures.others;
      fresh = c.an_id_is_configured_once.ensures.fresh;
      killed = c.a_call_that_is_done_has_its_subscription.ensures.killed;
      resynced = c.a_call_that_is_done_has_its_subscription.ensures.resynced;
      unconfigured = c.a_call_that_is_done_has_its_subscription.ensures.unconfigured;
      given = c.what_has_ended_stays_so.ensures.given;
      still = c.no_id_is_given_twice.ensures.stays;
      over = c.what_has_ended_stays_so.ensures.ended;
    }) e before entered sub is in
    (comes_after before e.present.state.now (receivers_after e.present.schema.now before e.present.state.now e.entry.now.command entered.after) found.1, found.0)

pub returns-clause-ended : goal.returns-clause-ended
returns-clause-ended c = λ e before entered. ended_here (record {
  amended = c.an_amendment_changes_one_subscription.ensures.found;
  not_amended = c.an_amendment_changes_one_subscription.ensures.others;
  gone = c.an_end_takes_one_subscription_away.ensures.found;
  not_gone = c.an_end_takes_one_subscription_away.ensures.others;
  not_configured = c.a_configuration_adds_one_subscription.ensures.others;
  fresh = c.an_id_is_configured_once.ensures.fresh;
  killed = c.a_call_that_is_done_has_its_subscription.ensures.killed;
  resynced = c.a_call_that_is_done_has_its_subscription.ensures.resynced;
  unconfigured = c.a_call_that_is_done_has_its_subscription.ensures.unconfigured;
  given = c.what_has_ended_stays_so.ensures.given;
  still = c.no_id_is_given_twice.ensures.stays;
  over = c.what_has_ended_stays_so.ensures.ended;
}) e before entered

pub returns-clause-terms : goal.returns-clause-terms
returns-clause-terms c = λ e before entered terms live.
    let after = e.present.state.now in
    let all = subst (λ n. AllByRecursion (AreTermsOf e.present.schema.now n) after.registry.live) entered.users entered.registry.terms in
    found_has (AreTermsOf e.present.schema.now (length after.receivers)) terms.id after.registry.live terms all live
