use Rattle.yp_hearing.proofs.Windows.{window_heard}
use Rattle.yp_hearing.proofs.laws.the_record_of_a_window_is_heard.Goals as goal

pub returns : goal.returns
returns c nodes excluded first later one rest = window_heard nodes c.a_datastore_is_whole.ensures.below excluded first later one rest
