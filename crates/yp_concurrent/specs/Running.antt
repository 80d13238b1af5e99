-- How far a run has come: outside of lanes by one thread, and in them by several.
use Rattle.std.specs.Prelude.{◌≡◌, ℕ, ◌+◌, ◌^◌, ◌<◌, List, [], ◌∷◌, ◌++◌, length, map, Some}
use Rattle.std.specs.List.{AllByRecursion, slice_get}
use Rattle.yp_schema.specs.declared.schema.SchemaNode.{SchemaNode}
use Rattle.yp_time.specs.Instants.{IsStart}
use Rattle.yp_journal.specs.declared.command.Command.{Command}
use Rattle.yp_journal.specs.declared.entry.Entry.{Entry}
use Rattle.yp_journal.specs.declared.receiver.ReceiverInfo.{ReceiverInfo}
use Rattle.yp_journal.specs.History.{first_state, state_of, IsLegal}
use Rattle.yp_script.specs.declared.script.Script.{Script}
use Rattle.yp_attempt.specs.Attempts.{FillsFirst, of_receiver}
use Rattle.yp_attempt.specs.Runs.{Run}
use Rattle.yp_attempt.specs.Tracks.{Attempt}
use Rattle.yp_attempt.specs.Workers.{numbers_of}
use Rattle.yp_crews.specs.Crews.{AreCrews}
use Rattle.yp_report.specs.Replies.{replied_of}
use Rattle.yp_turns.specs.declared.turns.Turn.{Turn}
use Rattle.yp_turns.specs.Journal.{Interleaves, turn_of}
use Rattle.yp_turns.specs.Turns.{turns_of}
use Rattle.yp_concurrent.specs.declared.outside.Standing.{Standing}
use Rattle.yp_concurrent.specs.declared.script.Ran.{Ran}

-- ---- queues

-- of these attempts, the queue of each receiver with one of these numbers was full only after as many were accepted as it has places
abbrev pub HaveFilled : List ReceiverInfo → List ℕ → List Attempt → Type 0
HaveFilled receivers mine done = AllByRecursion (λ receiver. (info : ReceiverInfo) → slice_get receivers receiver ≡ Some info → FillsFirst info.places (of_receiver receiver done)) mine

-- so it was by the runs of so many workers, the first of which has this number
abbrev pub EachFilled : List ReceiverInfo → ℕ → ℕ → List Run → Type 0
EachFilled receivers workers worker [] = Unit {0}
EachFilled receivers workers worker (run ∷ runs) = HaveFilled receivers (numbers_of worker workers (length receivers)) run.done × EachFilled receivers workers (worker + 1) runs

-- ---- between two commands

-- a run stands after the entries of a legal journal: its state is the one that they leave, its replies are theirs, and its crews have served them, by runs in which each queue was full only where it could be
pub record IsAt (nodes : List SchemaNode) (start : ℕ) (receivers : List ReceiverInfo) (workers : ℕ) (entries : List Entry) (standing : Standing) : Type 0 where
  pub legal : IsLegal nodes (first_state receivers) entries
  pub state : standing.state ≡ state_of nodes (first_state receivers) entries
  pub replies : standing.replies.items ≡ map replied_of entries
  pub runs : List Run
  pub count : length runs ≡ workers
  pub crews : AreCrews nodes start receivers workers 0 entries runs standing.crews.items
  pub filled : EachFilled receivers workers 0 runs

-- so it does after some entries
pub record IsSomewhere (nodes : List SchemaNode) (start : ℕ) (receivers : List ReceiverInfo) (workers : ℕ) (standing : Standing) : Type 0 where
  pub entries : List Entry
  pub is : IsAt nodes start receivers workers entries standing

-- it went on from entries by these turns
pub record HasTaken (nodes : List SchemaNode) (start : ℕ) (receivers : List ReceiverInfo) (workers : ℕ) (entries : List Entry) (taken : List Turn) (standing : Standing) : Type 0 where
  pub more : List Entry
  pub turns : map turn_of more ≡ taken
  pub is : IsAt nodes start receivers workers (entries ++ more) standing

-- ---- lanes

-- it went on from entries by the commands of lanes, in some interleaving
pub record HasTakenLanes (nodes : List SchemaNode) (start : ℕ) (receivers : List ReceiverInfo) (workers : ℕ) (entries : List Entry) (lanes : List (List Command)) (standing : Standing) : Type 0 where
  pub middle : List Turn
  pub interleaves : Interleaves lanes middle
  pub taken : HasTaken nodes start receivers workers entries middle standing

-- ---- all commands

-- a run took these commands before lanes, those of the lanes in some interleaving, and these after them
pub record HasRun (nodes : List SchemaNode) (start : ℕ) (receivers : List ReceiverInfo) (workers : ℕ) (before : List Command) (lanes : List (List Command)) (after : List Command) (standing : Standing) : Type 0 where
  pub entries : List Entry
  pub middle : List Turn
  pub turns : map turn_of entries ≡ turns_of 0 1 before ++ (middle ++ turns_of 0 (length before + 1) after)
  pub interleaves : Interleaves lanes middle
  pub few : length entries < 2 ^ 32
  pub is : IsAt nodes start receivers workers entries standing

-- the run of a script by so many workers: all its commands were taken
pub record IsRunOf (script : Script) (workers : ℕ) (ran : Ran) : Type 0 where
  pub schema : ran.schema ≡ script.schema
  pub receivers : ran.receivers ≡ script.receivers
  pub start : IsStart script.start
  pub run : HasRun script.schema script.start script.receivers workers script.before script.lanes script.after ran.standing
