use Rattle.yp_journal.proofs.state.State.edit.Given as goal

abbrev pub ghosts-apply_with : goal.ghosts-apply_with
ghosts-apply_with a = record { name = a.blank.name; parts = a.blank.parts }
