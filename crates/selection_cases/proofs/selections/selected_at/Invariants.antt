use Rattle.selection_cases.proofs.selections.selected_at.Given as goal

abbrev pub ghosts-select_counted_at : goal.ghosts-select_counted_at
ghosts-select_counted_at a = record { name = a.blank.name; parts = a.blank.parts }
