use Rattle.yp_journal.specs.History.{next_state}
use Rattle.yp_moment.specs.Entries.{act_of}
use Rattle.yp_moment.proofs.Doing.{EndLaws, deleted_selects, killed_selects, unconfigured_selects}
use Rattle.yp_moment.proofs.acts.an_end_is_told_or_not.Goals as goal

pub returns : goal.returns
returns c =
    let laws : EndLaws = record { done = c.a_call_is_done_or_leaves_the_registry.ensures.done; gone = c.an_end_takes_one_subscription_away.ensures.found } in
    record {
      deleted = λ nodes state entry by id asked done i. act_of (asked i) (done i) (next_state nodes state (asked i));
      killed = λ nodes state entry by id asked done i. act_of (asked i) (done i) (next_state nodes state (asked i));
      unconfigured = λ nodes state entry id asked done i. act_of (asked i) (done i) (next_state nodes state (asked i));
      none_after_deletion = λ nodes state by id receiver is. deleted_selects laws nodes state receiver by id is;
      none_after_kill = λ nodes state by id receiver is. killed_selects laws nodes state receiver by id is;
      none_unconfigured = λ nodes state id receiver is. unconfigured_selects laws nodes state receiver id is;
    }
