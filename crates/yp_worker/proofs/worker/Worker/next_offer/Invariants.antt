use Rattle.yp_worker.proofs.worker.Worker.next_offer.Given as goal

-- the ledgers are those of the blanks
abbrev pub ghosts-look : goal.ghosts-look
ghosts-look a = record { name = a.blank.name; parts = a.blank.parts }

abbrev pub ghosts-write : goal.ghosts-write
ghosts-write a = record { name = a.blank.name; parts = a.blank.parts }
