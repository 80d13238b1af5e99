use Rattle.yp_worker.proofs.worker.Worker.take.Given as goal

-- the ledgers are those of the blanks
abbrev pub ghosts-find_former : goal.ghosts-find_former
ghosts-find_former a = record { name = a.blank.name; parts = a.blank.parts }

abbrev pub ghosts-enter : goal.ghosts-enter
ghosts-enter a = record { name = a.blank.name; parts = a.blank.parts }

abbrev pub ghosts-follow_with : goal.ghosts-follow_with
ghosts-follow_with a = record { name = a.blank.name; parts = a.blank.parts }
