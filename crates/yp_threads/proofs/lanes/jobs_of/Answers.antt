use Rattle.std.proofs.Common.{◌≡◌, ◌+◌, ◌∷◌, ◌++◌, [], List, length, map, arith, refl, sym, ap, subst, ◌∙◌}
use Rattle.std.proofs.lemmas.List.{nil_from_length}
use Rattle.std.specs.Vec.Iter.{into_iter_items}
use Rattle.yp_journal.specs.declared.command.Command.{Command}
use Rattle.yp_log_share.specs.Seats.{Seat}
use Rattle.yp_handover.specs.ListLaws.{all_more}
use Rattle.yp_threads.proofs.Lists.{all_done, mapped_push}
use Rattle.yp_threads.proofs.lanes.jobs_of.Goals as goal

pub loop-seat-init : goal.loop-seat-init
loop-seat-init g c =
    let sat = c.into_iter-seat-iterator.ensures.into_iter_gives.0 in
    let given = c.into_iter-lanes.ensures.rest ∙ c.in_ok-into_vec.ensures in
    record {
      sat = [];
      given = [];
      all_sat = sat;
      all_given = given;
      left = ap (λ (those : List Seat). length those) sat ∙ (c.requires ∙ sym (ap (λ (those : List (List Command)). length those) given));
      seats = ap (λ jobs. map (λ job. job.seat) jobs) c.in_ok-jobs.ensures.items;
      lanes = ap (λ jobs. map (λ job. job.commands.items) jobs) c.in_ok-jobs.ensures.items;
    }

pub loop-seat-preserved : goal.loop-seat-preserved
loop-seat-preserved g c =
    let inv = c.loop-seat.invariant in
    let seat = c.in-Some.seat in
    let lane = c.in-Some-next.commands in
    let seat_cut = c.in-Some.ensures.steps.0 in
    let lane_cut = c.in-Some-next.ensures.items in
    record {
      sat = inv.sat ++ seat ∷ [];
      given = inv.given ++ lane ∷ [];
      all_sat = all_more inv.sat seat _ _ _ seat_cut inv.all_sat;
      all_given = all_more inv.given lane _ _ _ lane_cut inv.all_given;
      left = omega (arith, inv.left, ap length seat_cut, ap length lane_cut);
      seats = mapped_push (λ job. job.seat) _ _ _ inv.sat c.in_ok-push.ensures.items inv.seats;
      lanes = mapped_push (λ job. job.commands.items) _ _ _ inv.given c.in_ok-push.ensures.items inv.lanes ∙ ap (λ (one : List Command). inv.given ++ one ∷ []) (c.in_ok-commands-in-Some-next).ensures;
    }

pub returns-clause-seats : goal.returns-clause-seats
returns-clause-seats g c =
    let inv = c.loop-seat.invariant in
    inv.seats ∙ all_done inv.sat _ _ (nil_from_length _ (sym c.loop-seat.seat-iterator.rest.ok.0 ∙ c.in-None.ensures.steps.0)) inv.all_sat

pub returns-clause-lanes : goal.returns-clause-lanes
returns-clause-lanes g c =
    let inv = c.loop-seat.invariant in
    inv.lanes ∙ all_done inv.given _ _ (nil_from_length _ (sym inv.left ∙ (sym c.loop-seat.seat-iterator.rest.ok.0 ∙ c.in-None.ensures.steps.0))) inv.all_given
