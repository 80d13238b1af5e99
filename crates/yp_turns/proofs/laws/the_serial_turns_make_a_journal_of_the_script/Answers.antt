use Rattle.yp_turns.proofs.Journals.{journal_is}
use Rattle.yp_turns.proofs.laws.the_serial_turns_make_a_journal_of_the_script.Goals as goal

pub returns : goal.returns
returns c = journal_is
