use Rattle.journal_tests.proofs.shared.a_lane_writes_what_a_reader_reads.Given as goal

abbrev pub ghosts-life-J-Ledger : goal.ghosts-life-J-Ledger
ghosts-life-J-Ledger g a = record { name = a.blank.name; parts = a.blank.parts }

abbrev pub ghosts-life-J-Naming : goal.ghosts-life-J-Naming
ghosts-life-J-Naming g a = record { book = a.opened.seen.book; nodes = a.schema.now; opening = a.state }
