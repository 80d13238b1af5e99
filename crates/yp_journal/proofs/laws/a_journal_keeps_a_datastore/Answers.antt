use Rattle.yp_journal.specs.JournalLaws.{opening_datastore}
use Rattle.yp_journal.proofs.Keeping.{command_keeps, entries_keep}
use Rattle.yp_journal.proofs.laws.a_journal_keeps_a_datastore.Goals as goal

pub returns-clause-opening : goal.returns-clause-opening
returns-clause-opening c = opening_datastore

pub returns-clause-command : goal.returns-clause-command
returns-clause-command c = command_keeps c.a_patch_keeps_a_datastore.ensures

pub returns-clause-entries : goal.returns-clause-entries
returns-clause-entries c = entries_keep c.a_patch_keeps_a_datastore.ensures
