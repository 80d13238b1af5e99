use Rattle.yp_moment.proofs.Ended.{OtherLaws}
use Rattle.yp_moment.proofs.Living.{LiveLaws, is_live}
use Rattle.yp_moment.proofs.Registries.{IdsRise}
use Rattle.yp_moment.proofs.Starting.{StartLaws}
use Rattle.yp_moment.proofs.acts.what_has_a_receiver_is_live_until_it_ends.Goals as goal

pub returns : goal.returns
returns c nodes receivers entries legal receiver id n has lives =
    let first = c.ids_rise.ensures in
    let each = c.ids_rise_after_each_call.ensures in
    let establishes = c.an_establishment_adds_one_subscription.ensures in
    let configures = c.a_configuration_adds_one_subscription.ensures in
    let amends = c.an_amendment_changes_one_subscription.ensures in
    let ends = c.an_end_takes_one_subscription_away.ensures in
    let once = c.no_id_is_given_twice.ensures in
    let rise : IdsRise = record {
      first = first.first;
      establish = first.kept;
      modify = each.modified;
      reconfigure = each.reconfigured;
      delete = each.deleted;
      kill = each.killed;
      unconfigure = each.unconfigured;
      configure = each.configured;
    } in
    let others : OtherLaws = record {
      establish = establishes.others;
      amend = amends.found;
      amend_others = amends.others;
      end = ends.found;
      end_others = ends.others;
      configure_others = configures.others;
      configure_new = once.configured;
      stays = once.stays;
    } in
    let starts : StartLaws = record {
      establish = record { next = c.an_id_is_given_once.ensures.next; found = establishes.found };
      configure = record { done = c.a_call_is_done_or_leaves_the_registry.ensures.done; fresh = c.an_id_is_configured_once.ensures.fresh; found = configures.found };
      stays = once.stays;
      established_new = once.established;
      configured_new = once.configured;
      ids = c.a_legal_journal_keeps_its_registry.ensures.ids;
    } in
    let laws : LiveLaws = record {
      rise = rise;
      others = others;
      starts = starts;
      refused = c.a_call_is_done_or_leaves_the_registry.ensures.refused;
      resynced = c.a_call_that_is_done_has_its_subscription.ensures.resynced;
    } in
    is_live receiver id laws nodes receivers entries n legal has lives
