-- A journal of a script has as many entries as the script has commands.
use Rattle.std.proofs.Common.{◌≡◌, ℕ, zero, suc, ◌+◌, ◌<◌, ◌≤◌, ◌==◌, nat_le, Bool, true, false, List, [], ◌∷◌, ◌++◌, length, map, refl, sym, ap, ap₂, ◌∙◌, cond, arith, length-append}
use Rattle.std.specs.List.{AllByRecursion}
use Rattle.std.proofs.lemmas.List.{length-map}
use Rattle.yp_journal.specs.declared.command.Command.{Command}
use Rattle.yp_journal.specs.declared.entry.Entry.{Entry}
use Rattle.yp_journal.specs.History.{first_state}
use Rattle.yp_script.specs.declared.script.Script.{Script}
use Rattle.yp_script.specs.Script.{count_commands}
use Rattle.yp_turns.specs.declared.turns.Turn.{Turn}
use Rattle.yp_turns.specs.Journal.{Interleaves, IsJournalOf, of_lane, turn_of}
use Rattle.yp_turns.specs.JournalLaws.{AreOfLanes, lane_at}
use Rattle.yp_turns.specs.Turns.{journal_of, serial_turns, turns_of}
use Rattle.yp_turns.proofs.Journals.{journal_is, turns_kept}
use Rattle.yp_turns.proofs.TurnLaws.{turns_length}

-- how many turns are of the first lanes
abbrev count_by : ℕ → List Turn → ℕ
count_by zero turns = 0
count_by (suc n) turns = count_by n turns + length (of_lane (suc n) turns)

count_none : (n : ℕ) → count_by n [] ≡ 0
count_none zero = refl
count_none (suc n) = ap (λ (k : ℕ). k + 0) (count_none n)

abbrev one_if : Bool → ℕ
one_if true = 1
one_if false = 0

below_next : (lane n : ℕ) (b : Bool) → (lane == suc n) ≡ b → one_if (nat_le lane n) + one_if b ≡ one_if (nat_le lane (suc n))
below_next lane n true e = let past : nat_le lane n ≡ false = grind (arith, e) in let within : nat_le lane (suc n) ≡ true = grind (arith, e) in (λ i. one_if (past i) + 1) ∙ sym (ap one_if within)
below_next lane n false e = let same : nat_le lane n ≡ nat_le lane (suc n) = grind (arith, e) in let none : one_if (nat_le lane n) + 0 ≡ one_if (nat_le lane n) = omega arith in none ∙ ap one_if same

one_longer : (turn : Turn) (rest : List Turn) (b : Bool) → length (cond b (turn ∷ rest) rest) ≡ length rest + one_if b
one_longer turn rest true = let more : suc (length rest) ≡ length rest + 1 = omega arith in more
one_longer turn rest false = let none : length rest ≡ length rest + 0 = omega arith in none

-- each turn is counted once
count_more : (n : ℕ) (turn : Turn) (turns : List Turn) → 0 < turn.lane → count_by n (turn ∷ turns) ≡ count_by n turns + one_if (nat_le turn.lane n)
count_more zero turn turns some =
    let past : nat_le turn.lane 0 ≡ false = grind (arith, some) in
    let none : one_if (nat_le turn.lane 0) ≡ 0 = ap one_if past in
    let same : 0 ≡ 0 + one_if (nat_le turn.lane 0) = omega (arith, none) in
    same
count_more (suc n) turn turns some =
    let earlier : count_by n (turn ∷ turns) ≡ count_by n turns + one_if (nat_le turn.lane n) = count_more n turn turns some in
    let longer : length (of_lane (suc n) (turn ∷ turns)) ≡ length (of_lane (suc n) turns) + one_if (turn.lane == suc n) = one_longer turn (of_lane (suc n) turns) (turn.lane == suc n) in
    let next : one_if (nat_le turn.lane n) + one_if (turn.lane == suc n) ≡ one_if (nat_le turn.lane (suc n)) = below_next turn.lane n (turn.lane == suc n) refl in
    omega (arith, earlier, longer, next)

count_all : (n : ℕ) (turns : List Turn) → AreOfLanes n turns → count_by n turns ≡ length turns
count_all n [] within = count_none n
count_all n (turn ∷ turns) within =
    let more : count_by n (turn ∷ turns) ≡ count_by n turns + one_if (nat_le turn.lane n) = count_more n turn turns within.0.0 in
    let here : nat_le turn.lane n ≡ true = grind (arith, within.0.1) in
    let one : one_if (nat_le turn.lane n) ≡ 1 = ap one_if here in
    let rest : count_by n turns ≡ length turns = count_all n turns within.1 in
    omega (arith, more, one, rest)

count_same : (n : ℕ) (ones twos : List Turn) → ((lane : ℕ) → 0 < lane → lane ≤ n → of_lane lane ones ≡ of_lane lane twos) → count_by n ones ≡ count_by n twos
count_same zero ones twos same = refl
count_same (suc n) ones twos same =
    ap₂ (λ (a b : ℕ). a + b) (count_same n ones twos (λ lane some most. same lane some (omega (arith, most)))) (ap (λ (turns : List Turn). length turns) (same (suc n) (omega arith) (omega arith)))

-- two interleavings of the same lanes are of one length
same_count : (lanes : List (List Command)) (ones twos : List Turn) → Interleaves lanes ones → Interleaves lanes twos → length ones ≡ length twos
same_count lanes ones twos first second =
    sym (count_all (length lanes) ones first.others)
    ∙ (count_same (length lanes) ones twos
    (λ lane some most.
    let at = lane_at (λ command. Unit {0}) lanes lane some most (all_unit lanes) in
    ap (λ (l : ℕ). of_lane l ones) at.2 ∙ (first.each at.0 at.1 at.3 ∙ sym (ap (λ (l : ℕ). of_lane l twos) at.2 ∙ second.each at.0 at.1 at.3)))
    ∙ count_all (length lanes) twos second.others)
  where
    each_unit : (commands : List Command) → AllByRecursion (λ command. Unit {0}) commands
    each_unit [] = tt
    each_unit (command ∷ commands) = (tt, each_unit commands)

    all_unit : (lanes : List (List Command)) → AllByRecursion (AllByRecursion (λ command. Unit {0})) lanes
    all_unit [] = tt
    all_unit (commands ∷ lanes) = (each_unit commands, all_unit lanes)

journal_length : (script : Script) (journal : List Entry) → (is : IsJournalOf script journal) → length journal ≡ length (turns_of 0 1 script.before) + (length is.middle + length (turns_of 0 (length script.before + 1) script.after))
journal_length script journal is =
    let last : List Turn = turns_of 0 (length script.before + 1) script.after in
    let many : length (map turn_of journal) ≡ length journal = length-map journal turn_of in
    let parts : length (map turn_of journal) ≡ length (turns_of 0 1 script.before ++ (is.middle ++ last)) = ap (λ (turns : List Turn). length turns) is.turns in
    let first : length (turns_of 0 1 script.before ++ (is.middle ++ last)) ≡ length (turns_of 0 1 script.before) + length (is.middle ++ last) = length-append (turns_of 0 1 script.before) (is.middle ++ last) in
    let second : length (is.middle ++ last) ≡ length is.middle + length last = length-append is.middle last in
    omega (arith, many, parts, first, second)

-- and so are two journals of a script
same_length : (script : Script) (ones twos : List Entry) → IsJournalOf script ones → IsJournalOf script twos → length ones ≡ length twos
same_length script ones twos first second =
    let middle : length first.middle ≡ length second.middle = same_count script.lanes first.middle second.middle first.lanes second.lanes in
    let one = journal_length script ones first in
    let two = journal_length script twos second in
    omega (arith, middle, one, two)

-- so each is as long as that of the serial turns
pub as_many_entries : (script : Script) (journal : List Entry) → IsJournalOf script journal → length journal ≡ count_commands script
as_many_entries script journal is =
    let turns : List Turn = serial_turns script.before script.lanes script.after in
    let kept : map turn_of (journal_of script) ≡ turns = turns_kept script.schema (first_state script.receivers) turns in
    same_length script journal (journal_of script) is (journal_is script)
    ∙ (sym (length-map (journal_of script) turn_of)
    ∙ (ap (λ (those : List Turn). length those) kept ∙ turns_length script))
