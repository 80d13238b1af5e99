use Rattle.yp_handover.proofs.Going.{all_go_on}
use Rattle.yp_handover.proofs.laws.a_crew_goes_on_by_threads.Goals as goal

pub returns : goal.returns
returns c = all_go_on
