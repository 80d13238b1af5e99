use Rattle.yp_turns.proofs.TurnLaws.{of_turns}
use Rattle.yp_turns.proofs.laws.a_legal_journal_is_that_of_its_turns.Goals as goal

pub returns : goal.returns
returns c = of_turns
