use Rattle.yp_journal.specs.History.{first_state, state_of}
use Rattle.yp_moment.proofs.Doing.{ConfigureLaws, act_configured}
use Rattle.yp_moment.proofs.Starting.{replied}
use Rattle.yp_moment.proofs.acts.a_configuration_starts_its_subscription.Goals as goal

pub returns : goal.returns
returns c nodes receivers entries schema legal before entry after id names ask is asked given =
    let laws : ConfigureLaws = record {
      done = c.a_call_is_done_or_leaves_the_registry.ensures.done;
      fresh = c.an_id_is_configured_once.ensures.fresh;
      found = c.a_configuration_adds_one_subscription.ensures.found;
    } in
    act_configured laws nodes (state_of nodes (first_state receivers) before) entry.command entry.reply id names ask (c.a_legal_journal_keeps_its_registry.ensures.ids nodes receivers before) asked given
    (replied nodes receivers entries legal before entry after is)
