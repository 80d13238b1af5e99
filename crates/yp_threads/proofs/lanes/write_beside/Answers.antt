use Rattle.std.proofs.Common.{◌≡◌, ◌<◌, ◌^◌, ◌∙◌, Bool, true, List, ap, length, map, refl, subst, sym}
use Rattle.std.specs.List.{AllByRecursion}
use Rattle.std.proofs.lemmas.List.{length-map, take_at}
use Rattle.yp_journal.specs.declared.command.Command.{Command}
use Rattle.yp_journal.specs.History.{MayCome}
use Rattle.yp_log_share.specs.Seats.{AreOfLanesFrom, Seat, count_calls}
use Rattle.yp_handover.specs.Handover.{Pairs}
use Rattle.yp_threads.specs.Beside.{HasAll, HaveAll}
use Rattle.yp_threads.proofs.Lists.{by_places, with_both}
use Rattle.yp_threads.proofs.Writing.{all_written, few, may, order_stays, Writes}
use Rattle.yp_threads.proofs.lanes.write_beside.Goals as goal

pub run_lanes-requires-clause-commands : goal.run_lanes-requires-clause-commands
run_lanes-requires-clause-commands g c κs within =
    let P = MayCome g.J.Naming.nodes g.J.Naming.opening.receivers in
    may (λ job. job.seat) (λ job. job.commands.items) P c.as_mut_slice.result.now (subst (λ jobs. AllByRecursion (AllByRecursion P) (map (λ job. job.commands.items) jobs)) (sym c.as_mut_slice.ensures.value) c.requires.lanes.may)

pub run_lanes-requires-clause-few : goal.run_lanes-requires-clause-few
run_lanes-requires-clause-few g c κs within =
    let back = sym c.as_mut_slice.ensures.value in
    few (λ job. job.seat) (λ job. job.commands.items) c.as_mut_slice.result.now (subst (λ jobs. count_calls (map (λ job. job.seat) jobs) ≡ 0) back c.requires.lanes.fresh)
    (subst (λ jobs. AllByRecursion (λ (lane : List Command). length lane < 2 ^ 32) (map (λ job. job.commands.items) jobs)) back c.requires.lanes.short)

pub finish-finished-requires-clause-every : goal.finish-finished-requires-clause-every
finish-finished-requires-clause-every g c = ap length (take_at c.run_lanes.new.jobs _ _ (c.run_lanes.auto.jobs ∙ c.as_mut_slice.ensures.len)) ∙ (c.run_lanes.auto.jobs ∙ (ap length c.as_mut_slice.ensures.value ∙ c.requires.every))

pub finish-finished-requires-clause-order : goal.finish-finished-requires-clause-order
finish-finished-requires-clause-order g c =
    let slice = c.as_mut_slice.result.now in
    let new = c.run_lanes.new.jobs in
    let value = c.as_mut_slice.ensures.value in
    let back = take_at new _ _ (c.run_lanes.auto.jobs ∙ c.as_mut_slice.ensures.len) in
    let wrote = by_places (Writes (λ job. job.seat) (λ job. job.commands.items) (λ job. job.whole)) slice new c.run_lanes.auto.jobs c.run_lanes.ensures in
    subst (λ jobs. AreOfLanesFrom 1 (map (λ job. job.seat) jobs)) (sym back)
    (order_stays (λ job. job.seat) (λ job. job.commands.items) (λ job. job.whole) 1 slice new wrote (subst (λ jobs. AreOfLanesFrom 1 (map (λ job. job.seat) jobs)) (sym value) c.requires.lanes.order))

pub returns : goal.returns
returns g c =
    let slice = c.as_mut_slice.result.now in
    let new = c.run_lanes.new.jobs in
    let value = c.as_mut_slice.ensures.value in
    let back = take_at new _ _ (c.run_lanes.auto.jobs ∙ c.as_mut_slice.ensures.len) in
    let wrote = by_places (Writes (λ job. job.seat) (λ job. job.commands.items) (λ job. job.whole)) slice new c.run_lanes.auto.jobs c.run_lanes.ensures in
    let order : AreOfLanesFrom 1 (map (λ job. job.seat) new) =
    order_stays (λ job. job.seat) (λ job. job.commands.items) (λ job. job.whole) 1 slice new wrote (subst (λ jobs. AreOfLanesFrom 1 (map (λ job. job.seat) jobs)) (sym value) c.requires.lanes.order) in
    with_both c.finish-finished.result _ _ _
    (λ finished marks seats.
    let same : finished.seats ≡ map (λ job. job.seat) new = seats ∙ ap (λ jobs. map (λ job. job.seat) jobs) back in
    let whole : AllByRecursion (λ (mark : Bool). mark ≡ true) (map (λ job. job.whole) new) = subst (λ jobs. AllByRecursion (λ (mark : Bool). mark ≡ true) (map (λ job. job.whole) jobs)) back marks in
    let all : Pairs HasAll (map (λ job. job.commands.items) slice) (map (λ job. job.seat) new) =
    all_written (λ job. job.seat) (λ job. job.commands.items) (λ job. job.whole) slice new wrote (ap (λ jobs. count_calls (map (λ job. job.seat) jobs)) value ∙ c.requires.lanes.fresh) whole in
    record {
      order = subst (AreOfLanesFrom 1) (sym same) order;
      all = subst (λ (seats : List Seat). Pairs HasAll (map (λ job. job.commands.items) c.args.jobs.items) seats) (sym same) (subst (λ jobs. Pairs HasAll (map (λ job. job.commands.items) jobs) (map (λ job. job.seat) new)) value all);
    }) c.finish-finished.ensures.whole c.finish-finished.ensures.seats
