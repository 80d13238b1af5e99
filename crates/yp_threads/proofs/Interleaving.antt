-- A journal of lanes that have all of their commands interleaves these.
use Rattle.std.proofs.Common.{◌≡◌, ℕ, zero, suc, ◌+◌, ◌<◌, ◌≤◌, ◌==◌, Bool, true, false, List, [], ◌∷◌, length, map, Some, arith, cond, refl, sym, ap, subst, ◌∙◌}
use Rattle.std.specs.List.{AllByRecursion, slice_get}
use Rattle.yp_journal.specs.declared.command.Command.{Command}
use Rattle.yp_journal.specs.declared.entry.Entry.{Entry}
use Rattle.yp_turns.specs.declared.turns.Turn.{Turn}
use Rattle.yp_turns.specs.Journal.{Interleaves, of_lane, turn_of}
use Rattle.yp_turns.specs.Turns.{turns_of}
use Rattle.yp_published.specs.Histories.{AreOfLanes}
use Rattle.yp_log_share.specs.declared.seat.Call.{Call}
use Rattle.yp_log_share.specs.Seats.{AreOfLanesFrom, AreWhole, Seat, call_of, calls_by}
use Rattle.yp_lanes.specs.Lanes.{AreNumberedFrom, commands_of}
use Rattle.yp_handover.specs.Handover.{Pairs}
use Rattle.yp_threads.specs.Beside.{HasAll}

-- the turn of a call of a lane
abbrev turn_by : ℕ → Call → Turn
turn_by lane call = record { lane = lane; index = call.index; command = call.command }

same_lane : (one other : ℕ) → (one == other) ≡ true → one ≡ other
same_lane one other is = grind (arith, is)

-- an entry more, which is of the lane or is not
turn_more : (lane position : ℕ) (entry : Entry) (turns : List Turn) (calls : List Call) (is : Bool) → (entry.lane == lane) ≡ is → turns ≡ map (turn_by lane) calls
    → cond is (turn_of entry ∷ turns) turns ≡ map (turn_by lane) (cond is (call_of position entry ∷ calls) calls)
turn_more lane position entry turns calls true is rest = λ i. record { lane = same_lane entry.lane lane is i; index = entry.index; command = entry.command } ∷ rest i
turn_more lane position entry turns calls false is rest = rest

-- the turns of a lane are those of its calls
turns_by : (lane position : ℕ) (entries : List Entry) → of_lane lane (map turn_of entries) ≡ map (turn_by lane) (calls_by lane position entries)
turns_by lane position [] = refl
turns_by lane position (entry ∷ entries) =
    turn_more lane position entry (of_lane lane (map turn_of entries)) (calls_by lane (position + 1) entries) (entry.lane == lane) refl (turns_by lane (position + 1) entries)

-- calls that are numbered one after another make the turns of their commands
numbered_turns : (lane number : ℕ) (calls : List Call) → AreNumberedFrom number calls → map (turn_by lane) calls ≡ turns_of lane number (map (λ call. call.command) calls)
numbered_turns lane number [] are = refl
numbered_turns lane number (call ∷ calls) are = λ i. record { lane = lane; index = are.0 i; command = call.command } ∷ numbered_turns lane (number + 1) calls are.1 i

module _ (position : ℕ) (entries : List Entry) where
  -- the turns of a lane are those of its commands
  of_seat : (lane : ℕ) (commands : List Command) (seat : Seat) → HasAll commands seat → seat.lane ≡ lane → seat.calls ≡ calls_by seat.lane position entries → of_lane lane (map turn_of entries) ≡ turns_of lane 1 commands
  of_seat lane commands seat has is whole =
      let calls : seat.calls ≡ calls_by lane position entries = whole ∙ ap (λ (l : ℕ). calls_by l position entries) is in
      turns_by lane position entries
      ∙ (ap (λ (those : List Call). map (turn_by lane) those) (sym calls)
      ∙ (numbered_turns lane 1 seat.calls has.1 ∙ ap (λ (those : List Command). turns_of lane 1 those) has.0))

  at_place : (first : ℕ) (lanes : List (List Command)) (seats : List Seat) → Pairs HasAll lanes seats → AreOfLanesFrom first seats → AreWhole position entries seats
      → (place lane : ℕ) (commands : List Command) → lane ≡ place + first → slice_get lanes place ≡ Some commands → of_lane lane (map turn_of entries) ≡ turns_of lane 1 commands
  at_place first [] seats all order whole place lane commands is at = cc
  at_place first (own ∷ lanes) [] all order whole place lane commands is at = absurd all
  at_place first (own ∷ lanes) (seat ∷ seats) all order whole zero lane commands is at =
      let same : own ≡ commands = cc in
      of_seat lane commands seat (subst (λ (those : List Command). HasAll those seat) same all.0) (order.0 ∙ omega (arith, is)) whole.0
  at_place first (own ∷ lanes) (seat ∷ seats) all order whole (suc place) lane commands is at = at_place (first + 1) lanes seats all.1 order.1 whole.1 place lane commands (omega (arith, is)) at

of_lanes : (lanes : ℕ) (entries : List Entry) → AreOfLanes lanes entries → AllByRecursion (λ (turn : Turn). (0 < turn.lane) × (turn.lane ≤ lanes)) (map turn_of entries)
of_lanes lanes [] are = tt
of_lanes lanes (entry ∷ entries) are = (are.0, of_lanes lanes entries are.1)

-- so it interleaves the lanes
pub interleaves : (position parts : ℕ) (entries : List Entry) (lanes : List (List Command)) (seats : List Seat) → Pairs HasAll lanes seats → AreOfLanesFrom 1 seats → AreWhole position entries seats → AreOfLanes parts entries → length lanes ≡ parts
    → Interleaves lanes (map turn_of entries)
interleaves position parts entries lanes seats all order whole of_parts count = record {
  each = λ place commands at. at_place position entries 1 lanes seats all order whole place (place + 1) commands refl at;
  others = of_lanes (length lanes) entries (subst (λ (n : ℕ). AreOfLanes n entries) (sym count) of_parts);
}
