-- The journal of a script has the script's commands.
use Rattle.std.proofs.Common.{◌≡◌, ℕ, zero, suc, ◌+◌, ◌<◌, ◌≤◌, ◌==◌, true, false, List, [], ◌∷◌, ◌++◌, length, map, Some, refl, sym, ap, ◌∙◌, cond, arith, append-nil}
use Rattle.std.specs.List.{slice_get}
use Rattle.std.proofs.lemmas.List.Elements.{filter-append}
use Rattle.yp_schema.specs.declared.schema.SchemaNode.{SchemaNode}
use Rattle.yp_journal.specs.declared.command.Command.{Command}
use Rattle.yp_journal.specs.History.{JournalState, first_state, next_state}
use Rattle.yp_script.specs.declared.script.Script.{Script}
use Rattle.yp_turns.specs.declared.turns.Turn.{Turn}
use Rattle.yp_turns.specs.Journal.{turn_of, of_lane, IsJournalOf}
use Rattle.yp_turns.specs.JournalLaws.{AreOfLanes, all_joined}
use Rattle.yp_turns.specs.Turns.{turns_of, lane_turns, serial_turns, entries_from, journal_of}

-- the entries of turns have these turns
pub turns_kept : (nodes : List SchemaNode) (state : JournalState) (turns : List Turn) → map turn_of (entries_from nodes state turns) ≡ turns
turns_kept nodes state [] = refl
turns_kept nodes state (turn ∷ turns) = ap (λ (rest : List Turn). turn ∷ rest) (turns_kept nodes (next_state nodes state turn.command) turns)

own_lane : (lane other index : ℕ) (commands : List Command) → (lane == other) ≡ true → of_lane other (turns_of lane index commands) ≡ turns_of lane index commands
own_lane lane other index [] same = refl
own_lane lane other index (command ∷ commands) same =
    let turn : Turn = record { lane = lane; index = index; command = command } in
    let rest : List Turn = of_lane other (turns_of lane (index + 1) commands) in
    ap (λ b. cond b (turn ∷ rest) rest) same ∙ ap (λ (turns : List Turn). turn ∷ turns) (own_lane lane other (index + 1) commands same)

other_lane : (lane other index : ℕ) (commands : List Command) → (lane == other) ≡ false → of_lane other (turns_of lane index commands) ≡ []
other_lane lane other index [] apart = refl
other_lane lane other index (command ∷ commands) apart =
    let turn : Turn = record { lane = lane; index = index; command = command } in
    let rest : List Turn = of_lane other (turns_of lane (index + 1) commands) in
    ap (λ b. cond b (turn ∷ rest) rest) apart ∙ other_lane lane other (index + 1) commands apart

split : (other : ℕ) (turns more : List Turn) → of_lane other (turns ++ more) ≡ of_lane other turns ++ of_lane other more
split other turns more = filter-append (λ (turn : Turn). turn.lane == other) turns more

past_lane : (first other : ℕ) → other < first → (first == other) ≡ false
past_lane first other past = grind (arith, past)

same_lane : (lane other : ℕ) → other ≡ lane → (lane == other) ≡ true
same_lane lane other is = grind (arith, is)

none_later : (first other : ℕ) (lanes : List (List Command)) → other < first → of_lane other (lane_turns first lanes) ≡ []
none_later first other [] past = refl
none_later first other (commands ∷ lanes) past =
    split other (turns_of first 1 commands) (lane_turns (first + 1) lanes)
    ∙ (λ i. other_lane first other 1 commands (past_lane first other past) i ++ none_later (first + 1) other lanes (omega (arith, past)) i)

-- lanes one after another have each lane's commands
lane_at : (first place other : ℕ) (lanes : List (List Command)) (commands : List Command) → slice_get lanes place ≡ Some commands → other ≡ first + place → of_lane other (lane_turns first lanes) ≡ turns_of other 1 commands
lane_at first place other [] commands there is = absurd cc
lane_at first zero other (here ∷ lanes) commands there is =
    let one : here ≡ commands = cc in
    let same : other ≡ first = omega (arith, is) in
    split other (turns_of first 1 here) (lane_turns (first + 1) lanes)
    ∙ (λ i. own_lane first other 1 here (same_lane first other same) i ++ none_later (first + 1) other lanes (omega (arith, same)) i)
    ∙ append-nil (turns_of first 1 here)
    ∙ (λ i. turns_of (sym same i) 1 (one i))
lane_at first (suc place) other (here ∷ lanes) commands there is =
    let later : first < other = omega (arith, is) in
    split other (turns_of first 1 here) (lane_turns (first + 1) lanes)
    ∙ ap (λ (turns : List Turn). turns ++ of_lane other (lane_turns (first + 1) lanes)) (other_lane first other 1 here (grind (arith, later)))
    ∙ lane_at (first + 1) place other lanes commands there (omega (arith, is))

of_one : (n lane index : ℕ) (commands : List Command) → 0 < lane → lane ≤ n → AreOfLanes n (turns_of lane index commands)
of_one n lane index [] some most = tt
of_one n lane index (command ∷ commands) some most = ((some, most), of_one n lane (index + 1) commands some most)

of_all : (n first : ℕ) (lanes : List (List Command)) → 0 < first → first + length lanes ≤ n + 1 → AreOfLanes n (lane_turns first lanes)
of_all n first [] some most = tt
of_all n first (commands ∷ lanes) some most =
    all_joined (λ (turn : Turn). (0 < turn.lane) × (turn.lane ≤ n)) (turns_of first 1 commands) (lane_turns (first + 1) lanes) (of_one n first 1 commands some (omega (arith, most))) (of_all n (first + 1) lanes (omega (arith, some)) (omega (arith, most)))

-- the journal of a script has its commands
pub journal_is : (script : Script) → IsJournalOf script (journal_of script)
journal_is script = record {
  middle = lane_turns 1 script.lanes;
  turns = turns_kept script.schema (first_state script.receivers) (serial_turns script.before script.lanes script.after);
  lanes = record {
    each = λ place commands there. lane_at 1 place (place + 1) script.lanes commands there (omega arith);
    others = of_all (length script.lanes) 1 script.lanes (omega arith) (omega arith);
  };
}
