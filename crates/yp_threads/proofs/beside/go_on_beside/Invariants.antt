use Rattle.yp_threads.proofs.beside.go_on_beside.Given as goal

abbrev pub ghosts-live-J-Ledger : goal.ghosts-live-J-Ledger
ghosts-live-J-Ledger g a = record { name = a.blank.name; parts = a.blank.parts }

abbrev pub ghosts-live-J-Naming : goal.ghosts-live-J-Naming
ghosts-live-J-Naming g a = record { book = a.opened.seen.book; nodes = a.setting.now.schema.now; opening = a.state }
