-- The order in which a run takes the commands of a script: those before the lanes, then each lane's, then those after them; and the journal that comes of it.
use Rattle.std.specs.Prelude.{ℕ, ◌+◌, List, [], ◌∷◌, ◌++◌, length}
use Rattle.yp_schema.specs.declared.schema.SchemaNode.{SchemaNode}
use Rattle.yp_journal.specs.declared.command.Command.{Command}
use Rattle.yp_journal.specs.declared.entry.Entry.{Entry}
use Rattle.yp_journal.specs.declared.receiver.ReceiverInfo.{ReceiverInfo}
use Rattle.yp_journal.specs.History.{JournalState, first_state, next_state, reply_to, MayCome}
use Rattle.yp_script.specs.declared.script.Script.{Script}
use Rattle.yp_turns.specs.declared.turns.Turn.{Turn}

-- commands of a lane, the first of which has this number
abbrev pub turns_of : ℕ → ℕ → List Command → List Turn
turns_of lane index [] = []
turns_of lane index (command ∷ commands) = record { lane = lane; index = index; command = command } ∷ turns_of lane (index + 1) commands

-- lanes, one after the other, the first of which has this number
abbrev pub lane_turns : ℕ → List (List Command) → List Turn
lane_turns lane [] = []
lane_turns lane (commands ∷ lanes) = turns_of lane 1 commands ++ lane_turns (lane + 1) lanes

-- the commands before the lanes, those of the lanes, and those after them; those outside the lanes are numbered through
abbrev pub serial_turns : List Command → List (List Command) → List Command → List Turn
serial_turns before lanes after = turns_of 0 1 before ++ (lane_turns 1 lanes ++ turns_of 0 (length before + 1) after)

-- each of these turns may come in a journal of these receivers
abbrev pub MayTake : List SchemaNode → List ReceiverInfo → Turn → Type 0
MayTake nodes receivers turn = MayCome nodes receivers turn.command

-- ---- the journal

abbrev pub entry_at : List SchemaNode → JournalState → Turn → Entry
entry_at nodes state turn = record {
  lane = turn.lane;
  index = turn.index;
  stamp = (next_state nodes state turn.command).stamp;
  command = turn.command;
  reply = reply_to nodes state turn.command;
}

-- the entries of turns that find this state
abbrev pub entries_from : List SchemaNode → JournalState → List Turn → List Entry
entries_from nodes state [] = []
entries_from nodes state (turn ∷ turns) = entry_at nodes state turn ∷ entries_from nodes (next_state nodes state turn.command) turns

-- the journal of a script
abbrev pub journal_of : Script → List Entry
journal_of script = entries_from script.schema (first_state script.receivers) (serial_turns script.before script.lanes script.after)
