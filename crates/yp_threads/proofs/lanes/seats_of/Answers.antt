use Rattle.std.proofs.Common.{◌≡◌, ◌∷◌, ◌++◌, [], Bool, true, List, map, refl, sym, ap, subst, ◌∙◌}
use Rattle.std.specs.List.{AllByRecursion}
use Rattle.std.proofs.lemmas.List.{nil_from_length}
use Rattle.std.specs.Vec.Iter.{into_iter_items}
use Rattle.yp_handover.specs.ListLaws.{mapped_all, mapped_done}
use Rattle.yp_log_share.specs.Seats.{Seat}
use Rattle.yp_threads.proofs.Lists.{all_joined}
use Rattle.yp_threads.proofs.lanes.seats_of.Goals as goal

pub loop-job-init : goal.loop-job-init
loop-job-init g c =
    let rest = c.into_iter-job-iterator.ensures.into_iter_gives.0 in
    record {
      seats = (λ i. c.in_ok-seats.ensures.items i ++ map (λ job. job.seat) (rest i));
      done = [];
      marks = ap (λ jobs. map (λ job. job.whole) jobs) rest;
      whole = tt;
    }

pub loop-job-preserved : goal.loop-job-preserved
loop-job-preserved g c =
    let inv = c.loop-job.invariant in
    let job = c.in-Some.job in
    let cut = c.in-Some.ensures.steps.0 in
    let rest : List Seat = map (λ job. job.seat) (into_iter_items c.next.new.self) in
    record {
      seats = ap (λ (those : List Seat). those ++ rest) c.in_ok-push.ensures.items ∙ mapped_all (λ job. job.seat) c.loop-job.seats.items job _ _ _ cut inv.seats;
      done = inv.done ++ job.whole ∷ [];
      marks = mapped_all (λ job. job.whole) inv.done job _ _ _ cut inv.marks;
      whole = all_joined (λ (mark : Bool). mark ≡ true) inv.done (job.whole ∷ []) inv.whole (c.if-not-whole.false, tt);
    }

pub returns-clause-whole : goal.returns-clause-whole
returns-clause-whole g c =
    let inv = c.loop-job.invariant in
    subst (AllByRecursion (λ (mark : Bool). mark ≡ true)) (mapped_done (λ job. job.whole) inv.done _ _ (nil_from_length _ (sym c.loop-job.job-iterator.rest.ok.0 ∙ c.in-None.ensures.steps.0)) inv.marks) inv.whole

pub returns-clause-seats : goal.returns-clause-seats
returns-clause-seats g c = mapped_done (λ job. job.seat) c.loop-job.seats.items _ _ (nil_from_length _ (sym c.loop-job.job-iterator.rest.ok.0 ∙ c.in-None.ensures.steps.0)) c.loop-job.invariant.seats
