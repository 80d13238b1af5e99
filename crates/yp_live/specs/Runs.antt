-- How far a run has come, and what of it can be written.
use Rattle.std.specs.Prelude.{◌≡◌, ℕ, ◌+◌, ◌^◌, ◌<◌, ◌≤◌, Bool, true, false, List, [], ◌∷◌, ◌++◌, length, map, codes}
use Rattle.std.specs.List.{AllByRecursion, flat_map}
use Rattle.yp_schema.specs.declared.schema.SchemaNode.{SchemaNode}
use Rattle.yp_time.specs.Instants.{IsStart}
use Rattle.yp_journal.specs.declared.command.Command.{Command}
use Rattle.yp_journal.specs.declared.entry.Entry.{Entry}
use Rattle.yp_journal.specs.declared.receiver.ReceiverInfo.{ReceiverInfo}
use Rattle.yp_script.specs.declared.script.Script.{Script}
use Rattle.yp_attempt.specs.Attempts.{answers_in}
use Rattle.yp_moment.specs.Windows.{recorded}
use Rattle.yp_serial.specs.Serial.{Served}
use Rattle.yp_serial.specs.Weights.{weights}
use Rattle.yp_worker.specs.declared.worker.Worker.{Worker}
use Rattle.yp_worker.specs.Workers.{IsIdleWorkerOf, IsWorkerOf}
use Rattle.yp_promise.specs.Posts.{HavePosts}
use Rattle.yp_promise.specs.Received.{CanBeShown}
use Rattle.yp_promise.specs.Serving.{IsServing, all_numbers, run_of, taken_by}
use Rattle.yp_report.specs.declared.replied.Replied.{Replied}
use Rattle.yp_report.specs.Replies.{replied_lines, replied_of}
use Rattle.yp_report.specs.Report.{reply_text}
use Rattle.yp_turns.specs.Journal.{turn_of}
use Rattle.yp_turns.specs.Turns.{serial_turns}
use Rattle.yp_live.specs.declared.run.Run.{Run}
use Rattle.yp_live.specs.declared.script.Ran.{Ran}
use Rattle.yp_live.specs.Desks.{DeskState, desk_text, desk_took, desks_at}

-- ---- between two turns

-- a run of these receivers so far, between two turns: its worker has taken the entries and has nothing to offer, the replies are those of the entries, and each desk is that of their serial run
pub record IsRun (nodes : List SchemaNode) (start : ℕ) (receivers : List ReceiverInfo) (entries : List Entry) (run : Run) : Type 0 where
  pub worker : IsIdleWorkerOf nodes start receivers (all_numbers receivers) entries (answers_in (run_of nodes receivers entries).run.done) run.worker
  pub replies : run.replies.items ≡ map replied_of entries
  pub desks : run.desks.items ≡ desks_at nodes start (run_of nodes receivers entries) 0 receivers

-- so it is of some entries
pub record IsSomeRun (nodes : List SchemaNode) (start : ℕ) (receivers : List ReceiverInfo) (run : Run) : Type 0 where
  pub entries : List Entry
  pub is : IsRun nodes start receivers entries run

-- ---- takes

-- the desks, the first of which has this number, after the receivers took what they take by a command
abbrev pub desks_took : Command → ℕ → List DeskState → List DeskState
desks_took command number [] = []
desks_took command number (desk ∷ desks) = desk_took (taken_by command number) desk ∷ desks_took command (number + 1) desks

-- ---- offers

-- a run on its way: its worker stands for the entries and for the answers of a serial run of them, and so does each desk
pub record IsOnItsWay (nodes : List SchemaNode) (start : ℕ) (receivers : List ReceiverInfo) (entries : List Entry) (served : Served) (worker : Worker) (desks : List DeskState) : Type 0 where
  pub serving : IsServing nodes receivers entries served
  pub posts : HavePosts receivers served
  pub stands : IsWorkerOf nodes start receivers (all_numbers receivers) entries (answers_in served.run.done) worker
  pub are : desks ≡ desks_at nodes start served 0 receivers

-- so it is of some entries and some serial run of them
pub record IsOnSomeWay (nodes : List SchemaNode) (worker : Worker) (desks : List DeskState) : Type 0 where
  pub start : ℕ
  pub receivers : List ReceiverInfo
  pub entries : List Entry
  pub served : Served
  pub is : IsOnItsWay nodes start receivers entries served worker desks

-- all was offered: the worker has nothing to offer, and each desk is that of the serial run of the entries
pub record IsThrough (nodes : List SchemaNode) (start : ℕ) (receivers : List ReceiverInfo) (entries : List Entry) (worker : Worker) (desks : List DeskState) : Type 0 where
  pub idle : IsIdleWorkerOf nodes start receivers (all_numbers receivers) entries (answers_in (run_of nodes receivers entries).run.done) worker
  pub are : desks ≡ desks_at nodes start (run_of nodes receivers entries) 0 receivers

-- how many offers may still come where a serial run stands
abbrev pub offers_left : Served → ℕ
offers_left served = weights recorded served.run.standing.stamp served.run.standing.tracks

-- at least so many offers were answered since a serial run stood there
pub record GoesOn (nodes : List SchemaNode) (start : ℕ) (receivers : List ReceiverInfo) (entries : List Entry) (served : Served) (count : ℕ) (worker : Worker) (desks : List DeskState) : Type 0 where
  pub next : Served
  pub fewer : offers_left next + count ≤ offers_left served
  pub is : IsOnItsWay nodes start receivers entries next worker desks

-- so it goes on, or all was offered
abbrev pub GoesOnIf : Bool → List SchemaNode → ℕ → List ReceiverInfo → List Entry → Served → ℕ → Worker → List DeskState → Type 0
GoesOnIf true nodes start receivers entries served count worker desks = GoesOn nodes start receivers entries served count worker desks
GoesOnIf false nodes start receivers entries served count worker desks = IsThrough nodes start receivers entries worker desks

-- the run of a script: all its commands were taken, in the order of a serial run
pub record IsRunOf (script : Script) (ran : Ran) : Type 0 where
  pub schema : ran.schema ≡ script.schema
  pub start : IsStart script.start
  pub entries : List Entry
  pub few : length entries < 2 ^ 32
  pub turns : map turn_of entries ≡ serial_turns script.before script.lanes script.after
  pub is : IsRun script.schema script.start script.receivers entries ran.run

-- ---- what is told in the end

-- the text of replies and of desks
abbrev pub text_from : List SchemaNode → List Replied → List DeskState → List ℕ
text_from nodes replies desks = flat_map reply_text (replied_lines 1 replies) ++ (flat_map (desk_text nodes) desks ++ codes "end\n")

-- desks of which there is a text
abbrev pub CanBeWritten : List SchemaNode → List DeskState → Type 0
CanBeWritten nodes desks = AllByRecursion (λ desk. CanBeShown nodes desk.trees) desks
