use Rattle.yp_turns.proofs.Counts.{as_many_entries}
use Rattle.yp_turns.proofs.laws.a_journal_of_a_script_has_as_many_entries.Goals as goal

pub returns : goal.returns
returns c = as_many_entries
