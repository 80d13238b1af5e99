use Rattle.yp_live.proofs.script.summary_of_script.Given as goal

-- the ledger is that of the blank
abbrev pub ghosts-summary_by : goal.ghosts-summary_by
ghosts-summary_by a = record { name = a.blank.name; parts = a.blank.parts }
