use Rattle.yp_turns.proofs.TurnLaws.{may_take}
use Rattle.yp_turns.proofs.laws.each_turn_of_a_script_may_come.Goals as goal

pub returns : goal.returns
returns c = may_take
