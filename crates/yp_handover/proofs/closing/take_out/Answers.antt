use Rattle.std.proofs.Common.{◌∷◌, ◌++◌, [], List, refl, subst, sym, ◌∙◌}
use Rattle.std.proofs.lemmas.List.{nil_from_length}
use Rattle.yp_handover.specs.declared.closing.Followed.{Followed}
use Rattle.yp_handover.specs.Handover.{Follower, IsTakenOut, Triples}
use Rattle.yp_handover.specs.ListLaws.{mapped_all, mapped_done, triples_pushed}
use Rattle.yp_handover.proofs.closing.take_out.Goals as goal

pub loop-follower-preserved : goal.loop-follower-preserved
loop-follower-preserved g c =
    let inv = c.loop-follower.invariant in
    let job = c.in-Some.follower in
    let follower : Follower = record { reader = job.reader; worker = job.worker; boxes = job.outboxes.items; whole = job.whole } in
    let followed : Followed = record { worker = job.worker; outboxes = job.outboxes } in
    record {
      done = inv.done ++ follower ∷ [];
      all = mapped_all _ inv.done job _ _ _ c.in-Some.ensures.steps.0 inv.all;
      out =
          triples_pushed IsTakenOut inv.done c.loop-follower.readers.items c.loop-follower.followed.items follower job.reader followed c.push.new.self.items c.push-in-loop-follower.new.self.items c.in_ok-push.ensures.items c.in_ok-push-2.ensures.items
          inv.out (record { whole = c.if-not-whole.false; same = refl; worker = refl; boxes = refl });
    }

pub returns : goal.returns
returns g c =
    let inv = c.loop-follower.invariant in
    subst (λ (followers : List Follower). Triples IsTakenOut followers c.loop-follower.readers.items c.loop-follower.followed.items)
    (mapped_done _ inv.done _ _ (nil_from_length _ (sym c.loop-follower.follower-iterator.rest.ok.0 ∙ c.in-None.ensures.steps.0)) inv.all) inv.out
