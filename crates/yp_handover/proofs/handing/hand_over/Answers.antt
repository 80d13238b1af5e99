use Rattle.std.proofs.Common.{◌≡◌, ◌+◌, ◌<◌, ◌∷◌, ◌++◌, [], ap, length, ◌∙◌, arith, length-append}
use Rattle.std.specs.Vec.Iter.{into_iter_items}
use Rattle.yp_published.specs.Reads.{Reading, fresh_reading}
use Rattle.yp_handover.specs.Handover.{AreJobsOf}
use Rattle.yp_handover.specs.ListLaws.{all_more, all_popped, mapped_count, mapped_pushed}
use Rattle.yp_handover.proofs.handing.hand_over.Goals as goal

pub loop-crew-preserved : goal.loop-crew-preserved
loop-crew-preserved g c =
    let inv = c.loop-crew.invariant in
    let crew = c.in-Some.crew in
    let rest = into_iter_items c.next.new.self in
    let workers = length c.args.crews.items in
    let jobs = AreJobsOf c.args.receivers.now workers in
    let followers = c.loop-crew.followers.items in
    let all : (inv.done ++ crew ∷ []) ++ rest ≡ c.args.crews.items = all_more inv.done crew rest _ _ c.in-Some.ensures.steps.0 inv.all in
    let less : c.len-in-loop-crew.result < workers =
    omega (arith, c.len-in-loop-crew.ensures, mapped_count jobs _ inv.done followers c.loop-crew.groups.items inv.jobs, ap length all, length-append (inv.done ++ crew ∷ []) rest, length-append inv.done (crew ∷ [])) in
    record {
      done = inv.done ++ crew ∷ [];
      all = all;
      jobs = mapped_pushed jobs _ inv.done followers c.loop-crew.groups.items crew c.in_ok-follower.follower c.in_ok-follower.group c.push.new.self.items c.push-in-loop-crew.new.self.items c.in_ok-push.ensures.items c.in_ok-push-2.ensures.items
          inv.jobs (c.in_ok-follower.ensures workers less);
      fresh = all_popped (λ (reader : Reading). reader ≡ fresh_reading) c.loop-crew.readers.items c.pop.new.self.items c.in-Some-pop.reader c.in-Some-pop.ensures.items inv.fresh;
    }
