use Rattle.std.proofs.Common.{◌≡◌, ◌<◌, ◌^◌, ℕ, Bool, true, List, length, map, ap, subst, sym, refl, ◌∙◌}
use Rattle.std.specs.Prelude.{All}
use Rattle.std.specs.List.{AllByRecursion}
use Rattle.std.proofs.lemmas.List.{length-map}
use Rattle.std.proofs.lemmas.Result.{IfOk-weaker}
use Rattle.yp_schema.specs.declared.schema.SchemaNode.{SchemaNode}
use Rattle.yp_journal.specs.declared.command.Command.{Command}
use Rattle.yp_journal.specs.History.{MayCome}
use Rattle.yp_log_share.specs.Seats.{AreOfLanesFrom, Seat, count_calls}
use Rattle.yp_takers.specs.Takers.{HasTakenOn}
use Rattle.yp_handover.specs.declared.group.Group.{Group}
use Rattle.yp_handover.specs.Handover.{AreJobsOf, Follower, HaveTaken, Pairs}
use Rattle.yp_handover.specs.ListLaws.{mapped_count}
use Rattle.yp_threads.specs.Beside.{AreOfWorkers, HaveAll}
use Rattle.yp_threads.proofs.Lists.{pairs_with, with_three}
use Rattle.yp_threads.proofs.Starting.{all_keeping, all_of_workers}
use Rattle.yp_threads.proofs.life.run_crews.Goals as goal

pub run_all-requires-clause-every : goal.run_all-requires-clause-every
run_all-requires-clause-every g c κs within = sym (length-map c.in_ok-lanes.lanes.items (λ job. job.seat)) ∙ (ap length c.in_ok-lanes.ensures.seats ∙ c.requires.seats.0)

pub run_all-requires-clause-lanes : goal.run_all-requires-clause-lanes
run_all-requires-clause-lanes g c κs within =
    let seats = sym c.in_ok-lanes.ensures.seats in
    let lanes = sym c.in_ok-lanes.ensures.lanes in
    record {
      order = subst (AreOfLanesFrom 1) seats c.requires.seats.1;
      fresh = subst (λ (those : List Seat). count_calls those ≡ 0) seats c.requires.seats.2;
      short = subst (AllByRecursion (λ (lane : List Command). length lane < 2 ^ 32)) lanes c.requires.short;
      may = subst (AllByRecursion (AllByRecursion (MayCome g.J.Naming.nodes g.J.Naming.opening.receivers))) lanes c.requires.commands;
    }

pub run_all-requires-clause-flags : goal.run_all-requires-clause-flags
run_all-requires-clause-flags g c κs within =
    ap length (c.as_slice-flags).ensures.value ∙ (c.in_ok-ended.ensures ∙ (c.len.ensures ∙ (c.args.crews.ok.0 ∙ sym (mapped_count (AreJobsOf c.args.setting.now.receivers.now (length c.args.crews.items)) _ c.args.crews.items c.in_ok-jobs.jobs.followers.items c.in_ok-jobs.jobs.groups.items c.in_ok-jobs.ensures))))

pub run_all-requires-clause-ready : goal.run_all-requires-clause-ready
run_all-requires-clause-ready g c κs within =
    c.jobs_of_crews_may_follow.ensures g.J.Naming.nodes g.J.Naming.opening c.args.setting.now.receivers.now (length c.args.crews.items) c.args.crews.items _ c.in_ok-jobs.jobs.groups.items c.requires.ready c.in_ok-jobs.ensures

pub run_all-requires-clause-workers : goal.run_all-requires-clause-workers
run_all-requires-clause-workers g c κs within =
    let receivers = c.args.setting.now.receivers.now in
    let crews = c.args.crews.items in
    let jobs = c.in_ok-jobs.jobs in
    subst (λ (n : ℕ). All (AreOfWorkers n) jobs.groups.items) (sym (mapped_count (AreJobsOf receivers (length crews)) _ crews jobs.followers.items jobs.groups.items c.in_ok-jobs.ensures))
    (all_of_workers receivers (length crews) crews _ jobs.groups.items c.in_ok-jobs.ensures)

pub run_all-requires-clause-kept : goal.run_all-requires-clause-kept
run_all-requires-clause-kept g c κs within = all_keeping c.args.setting.now.receivers.now (length c.args.crews.items) c.args.crews.items _ c.in_ok-jobs.jobs.groups.items c.in_ok-jobs.ensures

-- receivers that took on and are whole
have_taken : (nodes : List SchemaNode) (before after : Group) → Pairs (HasTakenOn nodes) before.takers.items after.takers.items → AllByRecursion (λ taker. taker.whole ≡ true) after.takers.items → HaveTaken nodes before after
have_taken nodes before after on whole = record { on = on; whole = whole }

pub returns-clause-lanes : goal.returns-clause-lanes
returns-clause-lanes g c =
    IfOk-weaker c.taken_apart.result _ _
    (λ back same. subst (λ (seats : List Seat). HaveAll c.args.lanes seats) (sym (ap (λ finished. finished.seats) same)) (subst (λ (lanes : List (List Command)). HaveAll lanes c.in_ok-ran.ran.finished.seats) c.in_ok-lanes.ensures.lanes c.in_ok-ran.ensures.lanes))
    c.taken_apart.ensures.finished

pub returns-clause-back : goal.returns-clause-back
returns-clause-back g c =
    let nodes = g.J.Naming.nodes in
    let begun = c.in_ok-jobs.jobs.groups.items in
    let Take = (λ (those : List SchemaNode) (before after : Group). Pairs (HasTakenOn those) before.takers.items after.takers.items) in
    let takes : Pairs (Take nodes) begun c.in_ok-ran.ran.groups.items = subst (λ (those : List SchemaNode). Pairs (Take those) begun c.in_ok-ran.ran.groups.items) c.requires.schema c.in_ok-ran.ensures.takes in
    with_three c.taken_apart.result _ _ _ _
    (λ back same whole out. record {
      firsts = map (λ job. record { reader = job.reader; worker = job.worker; boxes = job.outboxes.items; whole = job.whole }) c.in_ok-jobs.jobs.followers.items;
      begun = begun;
      jobs = c.in_ok-jobs.ensures;
      lasts = map (λ job. record { reader = job.reader; worker = job.worker; boxes = job.outboxes.items; whole = job.whole }) c.in_ok-ran.ran.followers.items;
      follows = c.in_ok-ran.ensures.follows;
      took = subst (λ groups. Pairs (HaveTaken nodes) begun groups.items) (sym same)
          (pairs_with (Take nodes) (HaveTaken nodes) (λ (group : Group). AllByRecursion (λ taker. taker.whole ≡ true) group.takers.items) (have_taken nodes) begun c.in_ok-ran.ran.groups.items takes whole);
      out = out;
    }) c.taken_apart.ensures.groups c.taken_apart.ensures.whole c.taken_apart.ensures.out
