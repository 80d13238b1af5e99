use Rattle.yp_moment.proofs.Starting.{StartLaws, journal_follows}
use Rattle.yp_moment.proofs.laws.entries_of_a_legal_journal_may_follow.Goals as goal

pub returns : goal.returns
returns c nodes receivers entries schema legal =
    let twice = c.no_id_is_given_twice.ensures in
    let laws : StartLaws = record {
      establish = record { next = c.an_id_is_given_once.ensures.next; found = c.an_establishment_adds_one_subscription.ensures.found };
      configure = record {
        done = c.a_call_is_done_or_leaves_the_registry.ensures.done;
        fresh = c.an_id_is_configured_once.ensures.fresh;
        found = c.a_configuration_adds_one_subscription.ensures.found;
      };
      stays = twice.stays;
      established_new = twice.established;
      configured_new = twice.configured;
      ids = c.a_legal_journal_keeps_its_registry.ensures.ids;
    } in
    journal_follows laws nodes receivers entries legal
