use Rattle.yp_journal.specs.History.{first_state, state_of}
use Rattle.yp_moment.proofs.Doing.{AmendLaws, act_modified, act_reconfigured, amended_same}
use Rattle.yp_moment.proofs.Starting.{replied}
use Rattle.yp_moment.proofs.acts.an_amendment_modifies_its_subscription.Goals as goal

pub returns : goal.returns
returns c =
    let has = c.a_call_that_is_done_has_its_subscription.ensures in
    let laws : AmendLaws = record {
      done = c.a_call_is_done_or_leaves_the_registry.ensures.done;
      modified = has.modified;
      reconfigured = has.reconfigured;
      found = c.an_amendment_changes_one_subscription.ensures.found;
    } in
    record {
      modified = λ nodes receivers entries schema legal before entry after by id amend is asked given.
          act_modified laws nodes (state_of nodes (first_state receivers) before) entry.command entry.reply by id amend asked given (replied nodes receivers entries legal before entry after is);
      reconfigured = λ nodes receivers entries schema legal before entry after id amend is asked given.
          act_reconfigured laws nodes (state_of nodes (first_state receivers) before) entry.command entry.reply id amend asked given (replied nodes receivers entries legal before entry after is);
      trigger = amended_same;
    }
