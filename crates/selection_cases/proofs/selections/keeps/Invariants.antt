use Rattle.selection_cases.proofs.selections.keeps.Given as goal

abbrev pub ghosts-keeps_counted : goal.ghosts-keeps_counted
ghosts-keeps_counted a = record { name = a.blank.name; parts = a.blank.parts }
