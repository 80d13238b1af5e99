-- Which journals are a script's: its commands before the lanes, those of the lanes in some interleaving, and its commands after them.
use Rattle.std.specs.Prelude.{◌≡◌, ℕ, ◌+◌, ◌<◌, ◌≤◌, ◌==◌, List, ◌++◌, length, map, filter, Some}
use Rattle.std.specs.List.{AllByRecursion, slice_get}
use Rattle.yp_journal.specs.declared.command.Command.{Command}
use Rattle.yp_journal.specs.declared.entry.Entry.{Entry}
use Rattle.yp_script.specs.declared.script.Script.{Script}
use Rattle.yp_turns.specs.declared.turns.Turn.{Turn}
use Rattle.yp_turns.specs.Turns.{turns_of}

-- the command of an entry, with its lane and its number there
abbrev pub turn_of : Entry → Turn
turn_of entry = record { lane = entry.lane; index = entry.index; command = entry.command }

-- the turns of one lane
abbrev pub of_lane : ℕ → List Turn → List Turn
of_lane lane turns = filter (λ turn. turn.lane == lane) turns

-- turns that interleave lanes: of each lane its commands in order, each once, and nothing else
pub record Interleaves (lanes : List (List Command)) (turns : List Turn) : Type 0 where
  pub each : (place : ℕ) (commands : List Command) → slice_get lanes place ≡ Some commands → of_lane (place + 1) turns ≡ turns_of (place + 1) 1 commands
  pub others : AllByRecursion (λ turn. (0 < turn.lane) × (turn.lane ≤ length lanes)) turns

-- a journal of a script's commands, each once and nothing else; those outside the lanes are of lane 0, and numbered through
pub record IsJournalOf (script : Script) (entries : List Entry) : Type 0 where
  pub middle : List Turn
  pub turns : map turn_of entries ≡ turns_of 0 1 script.before ++ (middle ++ turns_of 0 (length script.before + 1) script.after)
  pub lanes : Interleaves script.lanes middle
