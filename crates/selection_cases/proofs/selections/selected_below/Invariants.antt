use Rattle.selection_cases.proofs.selections.selected_below.Given as goal

abbrev pub ghosts-select_counted_below : goal.ghosts-select_counted_below
ghosts-select_counted_below a = record { name = a.blank.name; parts = a.blank.parts }
