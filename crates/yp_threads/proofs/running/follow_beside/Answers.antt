use Rattle.std.proofs.Common.{◌≡◌, List, map, sym, ap, subst, ◌∙◌}
use Rattle.std.specs.List.{AllByRecursion}
use Rattle.std.proofs.lemmas.List.{take_at}
use Rattle.yp_handover.specs.Handover.{Follower, IsFollowedBy, IsReadyToFollow, Pairs}
use Rattle.yp_handover.specs.ListLaws.{pairs_same}
use Rattle.yp_threads.proofs.Lists.{mapped_holds, mapped_places}
use Rattle.yp_threads.proofs.running.follow_beside.Goals as goal

pub run_followers-requires-clause-ready : goal.run_followers-requires-clause-ready
run_followers-requires-clause-ready g c κs within =
    let Ready = IsReadyToFollow g.J.Naming.nodes g.J.Naming.opening in
    mapped_holds (λ job. record { reader = job.reader; worker = job.worker; boxes = job.outboxes.items; whole = job.whole }) Ready c.as_mut_slice.result.now
    (subst (λ jobs. AllByRecursion Ready (map (λ job. record { reader = job.reader; worker = job.worker; boxes = job.outboxes.items; whole = job.whole }) jobs)) (sym c.as_mut_slice.ensures.value) c.requires.ready)

pub returns : goal.returns
returns g c =
    let slice = c.as_mut_slice.result.now in
    let new = c.run_followers.new.jobs in
    let e = c.run_followers.ensures in
    let Follow = IsFollowedBy g.J.Naming.nodes g.J.Naming.opening in
    pairs_same Follow _ _ _ _ (ap (λ jobs. map {B = Follower} (λ job. record { reader = job.reader; worker = job.worker; boxes = job.outboxes.items; whole = job.whole }) jobs) (sym c.as_mut_slice.ensures.value))
    (ap (λ jobs. map {B = Follower} (λ job. record { reader = job.reader; worker = job.worker; boxes = job.outboxes.items; whole = job.whole }) jobs) (take_at new _ _ (c.run_followers.auto.jobs ∙ c.as_mut_slice.ensures.len)))
    (mapped_places (λ job. record { reader = job.reader; worker = job.worker; boxes = job.outboxes.items; whole = job.whole }) Follow slice new c.run_followers.auto.jobs
    (λ place none less. record { ended = e.ended place none less; same = e.same place none less; followed = e.followed place none less }))
