use Rattle.receiver_tests.proofs.receiver.count.Given as goal

-- the ledger is that of the blank
abbrev pub ghosts-count_by : goal.ghosts-count_by
ghosts-count_by a = record { name = a.blank.name; parts = a.blank.parts }
