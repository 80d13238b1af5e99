-- The commands of a script in order, and its receivers.
use Rattle.std.proofs.Common.{◌≡◌, ℕ, suc, ◌+◌, ◌≤◌, List, [], ◌∷◌, ◌++◌, length, sum_by, refl, sym, ap, ◌∙◌, arith, length-append}
use Rattle.std.specs.Prelude.{All, flat_map}
use Rattle.std.specs.List.{AllByRecursion}
use Rattle.std.proofs.lemmas.List.Elements.{All-from_recursion, recursion_from_All}
use Rattle.std.proofs.lemmas.List.Sums.{sum_by-cons}
use Rattle.yp_journal.specs.declared.command.Command.{Command}
use Rattle.yp_journal.specs.declared.receiver.ReceiverInfo.{ReceiverInfo}
use Rattle.yp_journal.specs.History.{MayCome}
use Rattle.yp_script.specs.declared.script.Script.{Script}
use Rattle.yp_script.specs.Script.{IsReceiver, MayRun, count_commands}

-- those before the lanes, those of the lanes, and those after them
abbrev pub in_order : Script → List Command
in_order script = script.before ++ (flat_map (λ lane. lane) script.lanes ++ script.after)

module _ {X : Type 0} (P : X → Type 0) where
  joined : (xs ys : List X) → AllByRecursion P xs → AllByRecursion P ys → AllByRecursion P (xs ++ ys)
  joined [] ys here later = later
  joined (x ∷ xs) ys here later = (here.0, joined xs ys here.1 later)

  of_lists : (lists : List (List X)) → All (All P) lists → AllByRecursion P (flat_map (λ list. list) lists)
  of_lists [] all = tt
  of_lists (xs ∷ lists) all = joined xs (flat_map (λ list. list) lists) (recursion_from_All P xs (all 0 xs (omega arith))) (of_lists lists (λ k d less. all (suc k) d (omega (arith, less))))

  of_parts : (before : List X) (lists : List (List X)) (after : List X) → All P before → All (All P) lists → All P after → All P (before ++ (flat_map (λ list. list) lists ++ after))
  of_parts before lists after first middle last =
      All-from_recursion P (before ++ (flat_map (λ list. list) lists ++ after))
      (joined before (flat_map (λ list. list) lists ++ after) (recursion_from_All P before first) (joined (flat_map (λ list. list) lists) after (of_lists lists middle) (recursion_from_All P after last)))

-- each of them may come
pub may_come : (script : Script) → MayRun script → All (MayCome script.schema script.receivers) (in_order script)
may_come script may = of_parts (MayCome script.schema script.receivers) script.before script.lanes script.after may.before may.lanes may.after

lists_length : {X : Type 0} (lists : List (List X)) → length (flat_map (λ list. list) lists) ≡ sum_by (λ list. length list) lists
lists_length [] = refl
lists_length (xs ∷ lists) = length-append xs (flat_map (λ list. list) lists) ∙ (ap (λ (n : ℕ). length xs + n) (lists_length lists) ∙ sym (sum_by-cons (λ list. length list) xs lists))

-- there are as many as the script has
pub commands_length : (script : Script) → length (in_order script) ≡ count_commands script
commands_length script =
    let first = length-append script.before (flat_map (λ lane. lane) script.lanes ++ script.after) in
    let second = length-append (flat_map (λ lane. lane) script.lanes) script.after in
    omega (arith, first, second, lists_length script.lanes)

-- each receiver of a script has a place in its queue
pub have_places : (receivers : List ReceiverInfo) → All IsReceiver receivers → AllByRecursion (λ receiver. 1 ≤ receiver.places) receivers
have_places [] all = tt
have_places (receiver ∷ receivers) all = ((all 0 receiver (omega arith)).some, have_places receivers (λ k d less. all (suc k) d (omega (arith, less))))
