use Rattle.yp_journal.specs.History.{next_state}
use Rattle.yp_moment.specs.Entries.{act_of}
use Rattle.yp_moment.proofs.acts.a_resynchronisation_is_owed.Goals as goal

pub returns : goal.returns
returns c nodes state entry by id asked done = λ i. act_of (asked i) (done i) (next_state nodes state (asked i))
