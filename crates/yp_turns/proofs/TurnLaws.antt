-- The turns of a script, and the journal of turns.
use Rattle.std.proofs.Common.{◌≡◌, ℕ, suc, ◌+◌, List, [], ◌∷◌, ◌++◌, length, map, sum_by, refl, sym, ap, ap₂, ◌∙◌, arith, length-append}
use Rattle.std.specs.Prelude.{All}
use Rattle.std.specs.List.{AllByRecursion}
use Rattle.std.proofs.lemmas.List.Elements.{recursion_from_All}
use Rattle.std.proofs.lemmas.List.Sums.{sum_by-cons}
use Rattle.yp_schema.specs.declared.schema.SchemaNode.{SchemaNode}
use Rattle.yp_journal.specs.declared.command.Command.{Command}
use Rattle.yp_journal.specs.declared.entry.Entry.{Entry}
use Rattle.yp_journal.specs.History.{JournalState, next_state, MayCome, IsLegal}
use Rattle.yp_script.specs.declared.script.Script.{Script}
use Rattle.yp_script.specs.Script.{MayRun, count_commands}
use Rattle.yp_turns.specs.declared.turns.Turn.{Turn}
use Rattle.yp_turns.specs.Journal.{turn_of}
use Rattle.yp_turns.specs.JournalLaws.{OfCommand, all_joined, of_one_lane}
use Rattle.yp_turns.specs.Turns.{turns_of, lane_turns, serial_turns, MayTake, entries_from}

-- ---- which may come

-- what holds of each command of a script holds of the commands of its turns
module _ (P : Command → Type 0) where
  of_lanes : (lane : ℕ) (lanes : List (List Command)) → AllByRecursion (AllByRecursion P) lanes → AllByRecursion (OfCommand P) (lane_turns lane lanes)
  of_lanes lane [] all = tt
  of_lanes lane (commands ∷ lanes) all = all_joined (OfCommand P) (turns_of lane 1 commands) (lane_turns (lane + 1) lanes) (of_one_lane P lane 1 commands all.0) (of_lanes (lane + 1) lanes all.1)

  of_script : (before : List Command) (lanes : List (List Command)) (after : List Command) → AllByRecursion P before → AllByRecursion (AllByRecursion P) lanes → AllByRecursion P after
      → AllByRecursion (OfCommand P) (serial_turns before lanes after)
  of_script before lanes after first middle last =
      all_joined (OfCommand P) (turns_of 0 1 before) (lane_turns 1 lanes ++ turns_of 0 (length before + 1) after) (of_one_lane P 0 1 before first)
      (all_joined (OfCommand P) (lane_turns 1 lanes) (turns_of 0 (length before + 1) after) (of_lanes 1 lanes middle) (of_one_lane P 0 (length before + 1) after last))

each_listed : {X : Type 0} (P : X → Type 0) (lists : List (List X)) → All (All P) lists → AllByRecursion (AllByRecursion P) lists
each_listed P [] all = tt
each_listed P (xs ∷ lists) all = (recursion_from_All P xs (all 0 xs (omega arith)), each_listed P lists (λ k d less. all (suc k) d (omega (arith, less))))

-- each turn of a script may come
pub may_take : (script : Script) → MayRun script → AllByRecursion (MayTake script.schema script.receivers) (serial_turns script.before script.lanes script.after)
may_take script may =
    let P = MayCome script.schema script.receivers in
    of_script P script.before script.lanes script.after (recursion_from_All P script.before may.before) (each_listed P script.lanes may.lanes) (recursion_from_All P script.after may.after)

-- ---- how many there are

lane_length : (lane index : ℕ) (commands : List Command) → length (turns_of lane index commands) ≡ length commands
lane_length lane index [] = refl
lane_length lane index (command ∷ commands) = ap suc (lane_length lane (index + 1) commands)

lanes_length : (lane : ℕ) (lanes : List (List Command)) → length (lane_turns lane lanes) ≡ sum_by (λ commands. length commands) lanes
lanes_length lane [] = refl
lanes_length lane (commands ∷ lanes) =
    length-append (turns_of lane 1 commands) (lane_turns (lane + 1) lanes)
    ∙ (ap₂ (λ (n m : ℕ). n + m) (lane_length lane 1 commands) (lanes_length (lane + 1) lanes)
    ∙ sym (sum_by-cons (λ (those : List Command). length those) commands lanes))

-- as many turns as commands
pub turns_length : (script : Script) → length (serial_turns script.before script.lanes script.after) ≡ count_commands script
turns_length script =
    let after : List Turn = turns_of 0 (length script.before + 1) script.after in
    let first = length-append (turns_of 0 1 script.before) (lane_turns 1 script.lanes ++ after) in
    let second = length-append (lane_turns 1 script.lanes) after in
    omega (arith, first, second, lane_length 0 1 script.before, lanes_length 1 script.lanes, lane_length 0 (length script.before + 1) script.after)

-- ---- the journal of turns

-- a legal journal is that of its turns
pub of_turns : (nodes : List SchemaNode) (state : JournalState) (entries : List Entry) → IsLegal nodes state entries → entries ≡ entries_from nodes state (map turn_of entries)
of_turns nodes state [] legal = refl
of_turns nodes state (entry ∷ entries) legal =
    λ i. record { lane = entry.lane; index = entry.index; stamp = legal.0.stamp i; command = entry.command; reply = legal.0.reply i } ∷ of_turns nodes (next_state nodes state entry.command) entries legal.1 i
