use Rattle.selection_cases.proofs.windows.touched.Given as goal

abbrev pub ghosts-window_record : goal.ghosts-window_record
ghosts-window_record a = record { name = a.blank.name; parts = a.blank.parts }
