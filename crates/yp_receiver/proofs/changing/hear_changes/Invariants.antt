use Rattle.yp_receiver.proofs.changing.hear_changes.Given as goal

-- the ledger is that of the blank
abbrev pub ghosts-hear_several : goal.ghosts-hear_several
ghosts-hear_several a = record { name = a.blank.name; parts = a.blank.parts }
