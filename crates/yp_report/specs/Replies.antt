-- The replies of a run, as they are kept: one after another, each with the lane by which its command came, and its number there.
use Rattle.std.specs.Prelude.{ℕ, ◌+◌, List, [], ◌∷◌}
use Rattle.yp_journal.specs.declared.entry.Entry.{Entry}
use Rattle.yp_report.specs.declared.replied.Replied.{Replied}
use Rattle.yp_report.specs.Report.{ReplyLine}

-- the reply of an entry, with its lane and its number there
abbrev pub replied_of : Entry → Replied
replied_of entry = record { lane = entry.lane; index = entry.index; reply = entry.reply }

-- the lines of replies, the first of which has this position
abbrev pub replied_lines : ℕ → List Replied → List ReplyLine
replied_lines n [] = []
replied_lines n (replied ∷ replies) = record { position = n; lane = replied.lane; index = replied.index; reply = replied.reply } ∷ replied_lines (n + 1) replies
