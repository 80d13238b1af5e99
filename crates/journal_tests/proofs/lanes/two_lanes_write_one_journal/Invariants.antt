use Rattle.journal_tests.proofs.lanes.two_lanes_write_one_journal.Given as goal

abbrev pub ghosts-written_by_two-J-Ledger : goal.ghosts-written_by_two-J-Ledger
ghosts-written_by_two-J-Ledger g a = record { name = a.blank.name; parts = a.blank.parts }

abbrev pub ghosts-written_by_two-J-Naming : goal.ghosts-written_by_two-J-Naming
ghosts-written_by_two-J-Naming g a = record { book = a.opened.seen.book; nodes = a.schema.now; opening = a.state }
