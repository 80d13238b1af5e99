use Rattle.std.proofs.Common.{◌∙◌, List, length, refl, ap, subst, sym, arith}
use Rattle.std.specs.List.{AllByRecursion}
use Rattle.std.proofs.lemmas.List.Elements.{recursion_from_All}
use Rattle.yp_time.specs.Instants.{IsStart}
use Rattle.yp_journal.specs.declared.receiver.ReceiverInfo.{ReceiverInfo}
use Rattle.yp_journal.specs.History.{MayCome}
use Rattle.yp_concurrent.specs.Running.{HasRun}
use Rattle.yp_concurrent.proofs.Whole.{each_of_lanes}
use Rattle.yp_concurrent.proofs.script.run_script.Goals as goal

pub run_all-requires-clause-receivers : goal.run_all-requires-clause-receivers
run_all-requires-clause-receivers g c =
    let same = ap (λ (receivers : List ReceiverInfo). length receivers) (c.items.ensures ∙ c.in_ok-receivers.ensures) in
    omega (arith, same, c.requires.receivers.few)

pub run_all-requires-clause-before : goal.run_all-requires-clause-before
run_all-requires-clause-before g c =
    let script = c.args.script in
    λ κs lives. subst (λ (receivers : List ReceiverInfo). AllByRecursion (MayCome script.schema receivers) script.before) (sym (c.items.ensures ∙ c.in_ok-receivers.ensures))
    (recursion_from_All (MayCome script.schema script.receivers) script.before c.requires.commands.before)

pub run_all-requires-clause-middle : goal.run_all-requires-clause-middle
run_all-requires-clause-middle g c =
    let script = c.args.script in
    λ κs lives. subst (λ (receivers : List ReceiverInfo). AllByRecursion (AllByRecursion (MayCome script.schema receivers)) script.lanes) (sym (c.items.ensures ∙ c.in_ok-receivers.ensures))
    (each_of_lanes (MayCome script.schema script.receivers) script.lanes c.requires.commands.lanes)

pub run_all-requires-clause-after : goal.run_all-requires-clause-after
run_all-requires-clause-after g c =
    let script = c.args.script in
    λ κs lives. subst (λ (receivers : List ReceiverInfo). AllByRecursion (MayCome script.schema receivers) script.after) (sym (c.items.ensures ∙ c.in_ok-receivers.ensures))
    (recursion_from_All (MayCome script.schema script.receivers) script.after c.requires.commands.after)

pub returns : goal.returns
returns g c =
    let script = c.args.script in
    record {
      schema = refl;
      receivers = c.in_ok-receivers.ensures;
      start = subst IsStart c.second-second.ensures.value c.second-second.ensures.within;
      run = subst (λ (receivers : List ReceiverInfo). HasRun script.schema script.start receivers c.args.workers script.before script.lanes script.after c.in_ok-standing.standing) (c.items.ensures ∙ c.in_ok-receivers.ensures) c.in_ok-standing.ensures;
    }
