-- The promise of a report by threads: what its text tells of the bytes that the script was read from.
use Rattle.std.specs.Prelude.{◌≡◌, ℕ, ◌<◌, List, length, Some, None, Ok}
use Rattle.std.specs.List.{AllByRecursion, slice_get}
use Rattle.yp_journal.specs.declared.entry.Entry.{Entry}
use Rattle.yp_journal.specs.History.{first_state, IsLegal}
use Rattle.yp_script.specs.declared.script.Script.{Script}
use Rattle.yp_script.specs.Script.{script_in}
use Rattle.yp_attempt.specs.Runs.{Run, waits}
use Rattle.yp_moment.specs.Entries.{moments_of}
use Rattle.yp_moment.specs.Windows.{recorded}
use Rattle.yp_promise.specs.Interleaving.{setup_of}
use Rattle.yp_traces.specs.Traces.{AreServedBeside, IsWorkOf}
use Rattle.yp_hearing.specs.Hearing.{IsHeardAsMade, LinesMirror}
use Rattle.yp_report.specs.Report.{report_text}
use Rattle.yp_turns.specs.Journal.{IsJournalOf}
use Rattle.yp_concurrent.specs.Report.{got_beside, report_beside_of}

-- the entries are a journal of a script, which so many workers served beside each other by these runs, in the order of their numbers
pub record IsServedBeside (script : Script) (workers : ℕ) (entries : List Entry) (runs : List Run) : Type 0 where
  -- the journal has the script's commands, each once: those outside of lanes in their order, and between them those of the lanes in whatever interleaving
  pub journal : IsJournalOf script entries
  -- each command may come, and each reply and each tick is that of the fold of the commands
  pub legal : IsLegal script.schema (first_state script.receivers) entries
  -- each worker has a run
  pub count : length runs ≡ workers
  -- which goes over all of the entries, for the receivers that the worker serves; each queue was full only after as many notifications were accepted as it has places
  pub work : (worker : ℕ) (run : Run) → slice_get runs worker ≡ Some run → IsWorkOf (setup_of script.receivers workers) (moments_of script.schema script.receivers entries) worker run
  -- and at its end nothing is offered any more
  pub complete : (worker : ℕ) (run : Run) → slice_get runs worker ≡ Some run → waits recorded run ≡ None
  -- so each receiver is served: some interleaving does the same, and all that is promised of interleavings holds of what was offered to the receiver, and of what it took, which is all that its queue accepted
  pub beside : AreServedBeside script.schema script.receivers entries runs
  -- each line that it took, of whatever subscription, is heard as just the notification that was made
  pub heard : (receiver : ℕ) → receiver < length script.receivers → AllByRecursion (IsHeardAsMade script.schema script.start) (got_beside receiver runs)
  -- and after the line of each update of a mirrored subscription the tree that it made of the bytes of its lines so far is what is selected at the update's position
  pub mirrored : (receiver : ℕ) → receiver < length script.receivers → LinesMirror script.schema script.receivers entries receiver script.start (got_beside receiver runs)

-- a text that tells of a script's run by so many workers: there are the script, a journal of it, and the runs of the workers, such that ..
pub record TellsBeside (workers : ℕ) (bytes text : List ℕ) : Type 0 where
  pub script : Script
  pub entries : List Entry
  pub runs : List Run
  -- the bytes are the script
  pub read : script_in bytes ≡ Ok script
  pub served : IsServedBeside script workers entries runs
  -- the text is the report of just this journal and of what the workers did
  pub report : text ≡ report_text script.schema script.start (report_beside_of script.schema script.start script.receivers entries runs)
