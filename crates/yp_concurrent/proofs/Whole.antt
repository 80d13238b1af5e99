-- A whole run: commands before lanes, in them and after them.
use Rattle.std.proofs.Common.{◌≡◌, ℕ, ◌+◌, ◌<◌, ◌≤◌, List, [], ◌∷◌, ◌++◌, length, map, append-nil, append_assoc, sym, ap, ◌∙◌, arith, sum_by}
use Rattle.std.specs.Prelude.{All}
use Rattle.std.specs.List.{AllByRecursion}
use Rattle.std.proofs.lemmas.List.{map-append}
use Rattle.std.proofs.lemmas.List.Elements.{recursion_from_All}
use Rattle.std.proofs.lemmas.List.Sums.{sum_by-cons}
use Rattle.yp_schema.specs.declared.schema.SchemaNode.{SchemaNode}
use Rattle.yp_journal.specs.declared.command.Command.{Command}
use Rattle.yp_journal.specs.declared.entry.Entry.{Entry}
use Rattle.yp_journal.specs.declared.receiver.ReceiverInfo.{ReceiverInfo}
use Rattle.yp_script.specs.declared.script.Script.{Script}
use Rattle.yp_script.specs.Lines.{line_limit}
use Rattle.yp_script.specs.Script.{count_commands}
use Rattle.yp_attempt.specs.ListLaws.{all_weaker}
use Rattle.yp_turns.specs.declared.turns.Turn.{Turn}
use Rattle.yp_turns.specs.Journal.{IsJournalOf, turn_of}
use Rattle.yp_turns.specs.Turns.{turns_of}
use Rattle.yp_concurrent.specs.declared.outside.Standing.{Standing}
use Rattle.yp_concurrent.specs.Running.{HasRun, HasTaken, HasTakenLanes}

-- ---- lanes

-- a lane is no longer than all together
pub each_short : (limit : ℕ) (lanes : List (List Command)) → sum_by (λ (lane : List Command). length lane) lanes < limit → AllByRecursion (λ lane. length lane < limit) lanes
each_short limit [] few = tt
each_short limit (lane ∷ lanes) few =
    let cons : sum_by (λ (lane : List Command). length lane) (lane ∷ lanes) ≡ length lane + sum_by (λ (lane : List Command). length lane) lanes = sum_by-cons (λ (lane : List Command). length lane) lane lanes in
    (omega (arith, cons, few), each_short limit lanes (omega (arith, cons, few)))

-- what holds of each command of each lane
pub each_of_lanes : (P : Command → Type 0) (lanes : List (List Command)) → All (All P) lanes → AllByRecursion (AllByRecursion P) lanes
each_of_lanes P lanes all = all_weaker (All P) (AllByRecursion P) lanes (λ lane each. recursion_from_All P lane each) (recursion_from_All (All P) lanes all)

-- ---- entries

-- a journal of a script has as many entries as the script has commands
abbrev pub Many : Type 0
Many = (script : Script) (entries : List Entry) → IsJournalOf script entries → length entries ≡ count_commands script

module _ (many : Many) (nodes : List SchemaNode) (start : ℕ) (receivers : List ReceiverInfo) (workers : ℕ) (before : List Command) (lanes : List (List Command)) where
  -- the script of these commands, and of some after the lanes
  abbrev script_with : List Command → Script
  script_with after = record { start = start; schema = nodes; receivers = receivers; before = before; lanes = lanes; after = after }

  module _ (first second : Standing) (had : HasTaken nodes start receivers workers [] (turns_of 0 1 before) first) (in_lanes : HasTakenLanes nodes start receivers workers had.more lanes second) where
    abbrev pub so_far : List Entry
    so_far = had.more ++ in_lanes.taken.more

    turns_so_far : map turn_of so_far ≡ turns_of 0 1 before ++ in_lanes.middle
    turns_so_far = map-append turn_of had.more in_lanes.taken.more ∙ (λ i. had.turns i ++ in_lanes.taken.turns i)

    -- so many entries came so far
    pub count_so_far : length so_far ≡ length before + sum_by (λ (lane : List Command). length lane) lanes + 0
    count_so_far =
        many (script_with []) so_far
        (record { middle = in_lanes.middle; turns = turns_so_far ∙ ap (λ (those : List Turn). turns_of 0 1 before ++ those) (sym (append-nil in_lanes.middle)); lanes = in_lanes.interleaves })

    -- and then those after the lanes
    pub has_run : (third : Standing) (after : List Command) (next : ℕ) → next ≡ length before + 1 → length before + sum_by (λ (lane : List Command). length lane) lanes + length after ≤ line_limit
        → HasTaken nodes start receivers workers so_far (turns_of 0 next after) third → HasRun nodes start receivers workers before lanes after third
    has_run third after next number few last =
        let entries : List Entry = so_far ++ last.more in
        let turns : map turn_of entries ≡ turns_of 0 1 before ++ (in_lanes.middle ++ turns_of 0 (length before + 1) after) =
        map-append turn_of so_far last.more
        ∙ ((λ i. turns_so_far i ++ (last.turns ∙ ap (λ (n : ℕ). turns_of 0 n after) number) i)
        ∙ append_assoc (turns_of 0 1 before) in_lanes.middle (turns_of 0 (length before + 1) after)) in
        let count : length entries ≡ length before + sum_by (λ (lane : List Command). length lane) lanes + length after =
        many (script_with after) entries (record { middle = in_lanes.middle; turns = turns; lanes = in_lanes.interleaves }) in
        record {
          entries = entries;
          middle = in_lanes.middle;
          turns = turns;
          interleaves = in_lanes.interleaves;
          few = omega (arith, count, few);
          is = last.is;
        }
