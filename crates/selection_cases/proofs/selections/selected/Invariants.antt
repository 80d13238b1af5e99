use Rattle.selection_cases.proofs.selections.selected.Given as goal

abbrev pub ghosts-select_counted : goal.ghosts-select_counted
ghosts-select_counted a = record { name = a.blank.name; parts = a.blank.parts }
