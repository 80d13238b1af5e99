-- The seats of lanes: the calls that were accepted by each, and which calls a journal has of a lane.
use Rattle.std.specs.Prelude.{◌≡◌, ◌⊎◌, ℕ, ◌+◌, ◌==◌, List, [], ◌∷◌, ◌++◌, if◌then◌else◌, length, sum_by, Some}
use Rattle.std.specs.List.{AllByRecursion}
use Rattle.yp_journal.specs.declared.command.Command.{Command}
use Rattle.yp_journal.specs.declared.entry.Entry.{Entry}
use Rattle.yp_journal.specs.declared.reply.Reply.{Reply}
use Rattle.yp_log_share.specs.declared.seat.Call.{Call}
use Rattle.yp_published.specs.Histories.{Known, after_op}

-- what a seat knows: its lane, and the calls that were accepted, in order
pub record Seat : Type 0 where
  pub lane : ℕ
  pub calls : List Call

-- with one more call, at this position
abbrev pub with_call : Seat → ℕ → Command → Reply → Seat
with_call seat position command reply =
    record seat { calls = seat.calls ++ record { index = length seat.calls + 1; position = position; command = command; reply = reply } ∷ [] }

-- the call that an entry at this position tells
abbrev pub call_of : ℕ → Entry → Call
call_of position entry = record { index = entry.index; position = position; command = entry.command; reply = entry.reply }

-- the calls of a lane in a journal whose first entry has this position
abbrev pub calls_by : ℕ → ℕ → List Entry → List Call
calls_by lane position [] = []
calls_by lane position (entry ∷ entries) =
    if entry.lane == lane then call_of position entry ∷ calls_by lane (position + 1) entries else calls_by lane (position + 1) entries

-- the one stands in the other, in order
abbrev pub StandIn : List Call → List Call → Type 0
StandIn [] calls = Unit {0}
StandIn (call ∷ some) [] = ⊥
StandIn (call ∷ some) (other ∷ calls) = ((call ≡ other) × StandIn some calls) ⊎ StandIn (call ∷ some) calls

-- ---- all seats

-- the seats are of the lanes from this one on
abbrev pub AreOfLanesFrom : ℕ → List Seat → Type 0
AreOfLanesFrom lane [] = Unit {0}
AreOfLanesFrom lane (seat ∷ seats) = (seat.lane ≡ lane) × AreOfLanesFrom (lane + 1) seats

-- the calls of each seat are those that the journal has of its lane: each once, in order, and no others
abbrev pub AreWhole : ℕ → List Entry → List Seat → Type 0
AreWhole position entries seats = AllByRecursion (λ seat. seat.calls ≡ calls_by seat.lane position entries) seats

-- how many calls the seats have together
abbrev pub count_calls : List Seat → ℕ
count_calls seats = sum_by (λ seat. length seat.calls) seats

-- ---- what a call comes to

-- the journal has one more entry: of the seat's lane, with the number of its next call, this command and this reply
pub record IsEntered (before after : Known) (seat : Seat) (command : Command) (reply : Reply) : Type 0 where
  pub entry : Entry
  pub is_next : after ≡ after_op before (Some entry)
  pub of_lane : entry.lane ≡ seat.lane
  pub is_counted : entry.index ≡ length seat.calls + 1
  pub asks : entry.command ≡ command
  pub answers : entry.reply ≡ reply

-- all seats of a journal, and its entries
pub record AllSeats : Type 0 where
  pub seats : List Seat
  pub entries : List Entry
