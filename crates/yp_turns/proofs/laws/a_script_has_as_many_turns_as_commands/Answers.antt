use Rattle.yp_turns.proofs.TurnLaws.{turns_length}
use Rattle.yp_turns.proofs.laws.a_script_has_as_many_turns_as_commands.Goals as goal

pub returns : goal.returns
returns c = turns_length
