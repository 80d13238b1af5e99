use Rattle.yp_receiver.proofs.Lines.{told_state}
use Rattle.yp_receiver.proofs.laws.a_change_of_state_can_be_heard.Goals as goal

pub returns : goal.returns
returns c = told_state
