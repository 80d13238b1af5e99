use Rattle.yp_handover.proofs.Going.{crews_go_on}
use Rattle.yp_handover.proofs.laws.crews_go_on_by_threads.Goals as goal

pub returns : goal.returns
returns c = crews_go_on
