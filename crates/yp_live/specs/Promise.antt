-- The promise of a script's report: what its text tells of the bytes that the script was read from, and what it comes to.
use Rattle.std.specs.Prelude.{◌≡◌, ℕ, ◌<◌, List, length, Ok}
use Rattle.std.specs.List.{AllByRecursion}
use Rattle.yp_journal.specs.declared.entry.Entry.{Entry}
use Rattle.yp_journal.specs.History.{first_state, IsLegal}
use Rattle.yp_script.specs.declared.script.Script.{Script}
use Rattle.yp_script.specs.Script.{script_in}
use Rattle.yp_promise.specs.Interleaving.{EachInterleavingServes, OneIsTheSerialRun}
use Rattle.yp_promise.specs.Posts.{HavePosts}
use Rattle.yp_promise.specs.Promise.{Serves}
use Rattle.yp_promise.specs.Serving.{IsComplete, run_of}
use Rattle.yp_promise.specs.Shown.{got_by, offered_to}
use Rattle.yp_hearing.specs.Hearing.{IsHeardAsMade, LinesMirror}
use Rattle.yp_hearing.specs.Interleaving.{EachInterleavingIsHeard}
use Rattle.yp_report.specs.Report.{report_text}
use Rattle.yp_turns.specs.Journal.{IsJournalOf}
use Rattle.yp_turns.specs.Turns.{journal_of}
use Rattle.yp_live.specs.Report.{report_of}
use Rattle.yp_live.specs.Summary.{summary_text}

-- the entries are the journal of a script's serial run
pub record IsServed (script : Script) (entries : List Entry) : Type 0 where
  -- the journal has the script's commands, each once, in the order of the script
  pub journal : IsJournalOf script entries
  -- the lanes are taken one after the other
  pub serial : entries ≡ journal_of script
  -- each command may come, and each reply and each tick is that of the fold of the commands
  pub legal : IsLegal script.schema (first_state script.receivers) entries
  -- the run goes over all of them, and at its end nothing is offered any more
  pub complete : IsComplete script.schema script.receivers entries (run_of script.schema script.receivers entries)
  -- what a queue accepted its receiver took, or it stands there: never more than the queue has places, and nothing where the receiver takes each packet at once
  pub posts : HavePosts script.receivers (run_of script.schema script.receivers entries)
  -- each receiver is served by the serial run of the journal
  pub serves : (receiver : ℕ) → receiver < length script.receivers
      → Serves script.schema script.receivers entries receiver (offered_to receiver (run_of script.schema script.receivers entries)) (got_by receiver (run_of script.schema script.receivers entries))
  -- each line that it took, of whatever subscription, is heard as just the notification that was made
  pub heard : (receiver : ℕ) → receiver < length script.receivers → AllByRecursion (IsHeardAsMade script.schema script.start) (got_by receiver (run_of script.schema script.receivers entries))
  -- and after the line of each update of a mirrored subscription the tree that it made of the bytes of its lines so far is what is selected at the update's position
  pub mirrored : (receiver : ℕ) → receiver < length script.receivers
      → LinesMirror script.schema script.receivers entries receiver script.start (got_by receiver (run_of script.schema script.receivers entries))
  -- and however writers, workers and receivers interleave, each receiver is served too: by each journal of the script, in whatever order its lanes' commands came, and by each list of events that appends its entries, with one worker or more
  pub interleaved : (journal : List Entry) → IsJournalOf script journal → IsLegal script.schema (first_state script.receivers) journal → EachInterleavingServes script.schema script.receivers journal
  -- and there too each line that a receiver took is heard as just the notification that was made, and the trees of the lines' bytes are what is selected
  pub lines : (journal : List Entry) → IsJournalOf script journal → IsLegal script.schema (first_state script.receivers) journal → EachInterleavingIsHeard script.schema script.receivers journal script.start
  -- of which one is the serial run, notification for notification
  pub interleaving : OneIsTheSerialRun script.schema script.receivers entries

-- a text that tells of a script's run: there are the script and the journal of its run, such that ..
pub record Tells (bytes text : List ℕ) : Type 0 where
  pub script : Script
  pub entries : List Entry
  -- the bytes are the script
  pub read : script_in bytes ≡ Ok script
  pub served : IsServed script entries
  -- the text is the report of just this run
  pub report : text ≡ report_text script.schema script.start (report_of script.schema script.start script.receivers entries (run_of script.schema script.receivers entries))

-- the same of a text that says what the report of a script's run comes to
pub record Sums (bytes text : List ℕ) : Type 0 where
  pub script : Script
  pub entries : List Entry
  pub read : script_in bytes ≡ Ok script
  pub served : IsServed script entries
  pub summary : text ≡ summary_text (report_of script.schema script.start script.receivers entries (run_of script.schema script.receivers entries))
