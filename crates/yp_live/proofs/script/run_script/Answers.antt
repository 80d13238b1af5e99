use Rattle.std.proofs.Common.{◌≡◌, ◌≤◌, List, length, map, refl, sym, ap, subst, ◌∙◌, arith}
use Rattle.std.proofs.lemmas.List.{length-map}
use Rattle.std.specs.List.{AllByRecursion}
use Rattle.yp_time.specs.Instants.{IsStart}
use Rattle.yp_journal.specs.declared.entry.Entry.{Entry}
use Rattle.yp_journal.specs.declared.receiver.ReceiverInfo.{ReceiverInfo}
use Rattle.yp_turns.specs.declared.turns.Turn.{Turn}
use Rattle.yp_turns.specs.Journal.{turn_of}
use Rattle.yp_turns.specs.Turns.{serial_turns, MayTake}
use Rattle.yp_live.specs.declared.run.Run.{Run}
use Rattle.yp_live.specs.Runs.{IsRun}
use Rattle.yp_live.proofs.Promises.{have_places}
use Rattle.yp_live.proofs.script.run_script.Goals as goal

pub run_turns-requires-clause-places : goal.run_turns-requires-clause-places
run_turns-requires-clause-places c =
    subst (λ (receivers : List ReceiverInfo). AllByRecursion (λ receiver. 1 ≤ receiver.places) receivers) (sym (c.items.ensures ∙ c.in_ok-receivers.ensures)) (have_places c.args.script.receivers c.requires.receivers)

pub run_turns-requires-clause-may : goal.run_turns-requires-clause-may
run_turns-requires-clause-may c =
    let script = c.args.script in
    subst (λ (turns : List Turn). AllByRecursion (MayTake script.schema c.items.result.now) turns) (sym c.in_ok-turns.ensures)
    (subst (λ (receivers : List ReceiverInfo). AllByRecursion (MayTake script.schema receivers) (serial_turns script.before script.lanes script.after)) (sym (c.items.ensures ∙ c.in_ok-receivers.ensures)) (c.each_turn_of_a_script_may_come.ensures script c.requires.commands))

pub returns : goal.returns
returns c =
    let run : Run = c.in_ok-run.run' in
    let script = c.args.script in
    let entries : List Entry = c.in_ok-run.ensures.0 in
    let turns : map turn_of entries ≡ serial_turns script.before script.lanes script.after = c.in_ok-run.ensures.1.0 ∙ c.in_ok-turns.ensures in
    let same : length entries ≡ length (serial_turns script.before script.lanes script.after) = sym (length-map entries turn_of) ∙ ap (λ (those : List Turn). length those) turns in
    record {
      schema = refl;
      start = subst IsStart c.second-second.ensures.value c.second-second.ensures.within;
      entries = entries;
      few = omega (arith, same, c.a_script_has_as_many_turns_as_commands.ensures script, c.requires.count);
      turns = turns;
      is = subst (λ (receivers : List ReceiverInfo). IsRun script.schema script.start receivers entries run) (c.items.ensures ∙ c.in_ok-receivers.ensures) c.in_ok-run.ensures.1.1;
    }
