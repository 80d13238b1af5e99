-- What follows of journals of a script: what each of its commands has, the commands of each of its journals have.
use Rattle.std.proofs.Common.{◌≡◌, ℕ, zero, suc, ◌+◌, ◌<◌, ◌≤◌, ◌==◌, Bool, true, false, List, [], ◌∷◌, ◌++◌, length, map, Some, refl, sym, ap, subst, ◌∙◌, cond, arith}
use Rattle.std.specs.List.{AllByRecursion, slice_get}
use Rattle.yp_journal.specs.declared.command.Command.{Command}
use Rattle.yp_journal.specs.declared.entry.Entry.{Entry}
use Rattle.yp_script.specs.declared.script.Script.{Script}
use Rattle.yp_turns.specs.declared.turns.Turn.{Turn}
use Rattle.yp_turns.specs.Journal.{IsJournalOf, of_lane, turn_of}
use Rattle.yp_turns.specs.Turns.{turns_of}

module _ {X : Type 0} (P : X → Type 0) where
  pub all_joined : (xs ys : List X) → AllByRecursion P xs → AllByRecursion P ys → AllByRecursion P (xs ++ ys)
  all_joined [] ys here later = later
  all_joined (x ∷ xs) ys here later = (here.0, all_joined xs ys here.1 later)

-- ---- turns of lanes

-- turns of the first lanes
abbrev pub AreOfLanes : ℕ → List Turn → Type 0
AreOfLanes n turns = AllByRecursion (λ (turn : Turn). (0 < turn.lane) × (turn.lane ≤ n)) turns

same_lane : (lane : ℕ) → (lane == lane) ≡ true
same_lane lane = grind arith

module _ (Q : Turn → Type 0) where
  its_own : (turn : Turn) (turns : List Turn) → AllByRecursion Q (of_lane turn.lane (turn ∷ turns)) → Q turn
  its_own turn turns all = (subst (AllByRecursion Q) (ap (λ b. cond b (turn ∷ of_lane turn.lane turns) (of_lane turn.lane turns)) (same_lane turn.lane)) all).0

  later_by : (turn : Turn) (rest : List Turn) (b : Bool) → AllByRecursion Q (cond b (turn ∷ rest) rest) → AllByRecursion Q rest
  later_by turn rest true all = all.1
  later_by turn rest false all = all

  -- what the turns of each lane have, all have
  all_by_lane : (n : ℕ) (turns : List Turn) → ((lane : ℕ) → 0 < lane → lane ≤ n → AllByRecursion Q (of_lane lane turns)) → AreOfLanes n turns → AllByRecursion Q turns
  all_by_lane n [] each within = tt
  all_by_lane n (turn ∷ turns) each within = (
    its_own turn turns (each turn.lane within.0.0 within.0.1),
    all_by_lane n turns (λ lane some most. later_by turn (of_lane lane turns) (turn.lane == lane) (each lane some most)) within.1,
  )

-- a lane there is, with its commands
pub lane_at : (P : Command → Type 0) (lanes : List (List Command)) (lane : ℕ) → 0 < lane → lane ≤ length lanes → AllByRecursion (AllByRecursion P) lanes
    → (place : ℕ) × (commands : List Command) × (lane ≡ place + 1) × (slice_get lanes place ≡ Some commands) × AllByRecursion P commands
lane_at P lanes zero some most all = absurd (omega (arith, some))
lane_at P lanes (suc place) some most all = let at = by lanes place (omega (arith, most)) all in (place, at.0, omega arith, at.1, at.2)
  where
    by : (lanes : List (List Command)) (place : ℕ) → place < length lanes → AllByRecursion (AllByRecursion P) lanes → (commands : List Command) × (slice_get lanes place ≡ Some commands) × AllByRecursion P commands
    by [] place less all = absurd (omega (arith, less))
    by (commands ∷ lanes) zero less all = (commands, refl, all.0)
    by (commands ∷ lanes) (suc place) less all = by lanes place (omega (arith, less)) all.1

-- ---- commands

module _ (P : Command → Type 0) where
  -- what holds of a command holds of its turn
  abbrev pub OfCommand : Turn → Type 0
  OfCommand turn = P turn.command

  -- what the commands of a lane have, their turns have
  pub of_one_lane : (lane index : ℕ) (commands : List Command) → AllByRecursion P commands → AllByRecursion OfCommand (turns_of lane index commands)
  of_one_lane lane index [] all = tt
  of_one_lane lane index (command ∷ commands) all = (all.0, of_one_lane lane (index + 1) commands all.1)

  -- and what turns have, their entries have
  of_entries : (entries : List Entry) → AllByRecursion OfCommand (map turn_of entries) → AllByRecursion (λ entry. P entry.command) entries
  of_entries [] all = tt
  of_entries (entry ∷ entries) all = (all.0, of_entries entries all.1)

  -- what each command of a script has, those of each of its journals have
  pub journal_has : (script : Script) (journal : List Entry) → AllByRecursion P script.before → AllByRecursion (AllByRecursion P) script.lanes → AllByRecursion P script.after → IsJournalOf script journal
      → AllByRecursion (λ entry. P entry.command) journal
  journal_has script journal before lanes after is =
      let Q : Turn → Type 0 = OfCommand in
      let last : List Turn = turns_of 0 (length script.before + 1) script.after in
      let middle : AllByRecursion Q is.middle =
      all_by_lane Q (length script.lanes) is.middle
      (λ lane some most.
      let at = lane_at P script.lanes lane some most lanes in
      subst (AllByRecursion Q) (sym (ap (λ (l : ℕ). of_lane l is.middle) at.2 ∙ is.lanes.each at.0 at.1 at.3)) (of_one_lane (at.0 + 1) 1 at.1 at.4)) is.lanes.others in
      of_entries journal
      (subst (AllByRecursion Q) (sym is.turns) (all_joined Q (turns_of 0 1 script.before) (is.middle ++ last) (of_one_lane 0 1 script.before before) (all_joined Q is.middle last middle (of_one_lane 0 (length script.before + 1) script.after after))))
