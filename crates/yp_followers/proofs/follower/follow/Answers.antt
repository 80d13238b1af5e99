use Rattle.yp_followers.proofs.Keeping.{kept_through, still_ready}
use Rattle.yp_followers.proofs.Outboxes.{same_boxes, same_through}
use Rattle.yp_followers.proofs.follower.follow.Goals as goal

pub loop-init : goal.loop-init
loop-init g c = record {
  ready = c.requires.ready;
  followed = λ start receivers mine before opened legal begun up. up;
  same = same_boxes c.args.job.now.outboxes.items;
}

pub loop-preserved-in-Ok-Further : goal.loop-preserved-in-Ok-Further
loop-preserved-in-Ok-Further g c =
    let nodes = g.J.Naming.nodes in
    let opening = g.J.Naming.opening in
    let first = c.args.job.now in
    let job = c.loop.job in
    let now = c.read_once.new.job in
    let next = c.in-Ok-Further.ensures.followed in
    record {
      ready = still_ready nodes opening job.reader.got.entries job.worker job.outboxes.items now.reader.got.entries now.worker now.outboxes.items next c.loop.invariant.ready;
      followed =
          kept_through nodes opening first.reader.got.entries first.worker first.outboxes.items job.reader.got.entries job.worker job.outboxes.items c.loop.invariant.followed
          now.reader.got.entries now.worker now.outboxes.items next;
      same = same_through first.outboxes.items job.outboxes.items now.outboxes.items c.loop.invariant.same c.read_once.ensures.same;
    }

pub loop-preserved-in-Ok-Waiting : goal.loop-preserved-in-Ok-Waiting
loop-preserved-in-Ok-Waiting g c =
    let nodes = g.J.Naming.nodes in
    let opening = g.J.Naming.opening in
    let first = c.args.job.now in
    let job = c.loop.job in
    let now = c.read_once.new.job in
    let next = c.in-Ok-Waiting.ensures.followed in
    record {
      ready = still_ready nodes opening job.reader.got.entries job.worker job.outboxes.items now.reader.got.entries now.worker now.outboxes.items next c.loop.invariant.ready;
      followed =
          kept_through nodes opening first.reader.got.entries first.worker first.outboxes.items job.reader.got.entries job.worker job.outboxes.items c.loop.invariant.followed
          now.reader.got.entries now.worker now.outboxes.items next;
      same = same_through first.outboxes.items job.outboxes.items now.outboxes.items c.loop.invariant.same c.read_once.ensures.same;
    }

pub loop-preserved : goal.loop-preserved
loop-preserved g c =
    let nodes = g.J.Naming.nodes in
    let opening = g.J.Naming.opening in
    let first = c.args.job.now in
    let job = c.loop.job in
    let now = c.read_once.new.job in
    let next = c.in-Ok-Missed.ensures.followed in
    record {
      ready = still_ready nodes opening job.reader.got.entries job.worker job.outboxes.items now.reader.got.entries now.worker now.outboxes.items next c.loop.invariant.ready;
      followed =
          kept_through nodes opening first.reader.got.entries first.worker first.outboxes.items job.reader.got.entries job.worker job.outboxes.items c.loop.invariant.followed
          now.reader.got.entries now.worker now.outboxes.items next;
      same = same_through first.outboxes.items job.outboxes.items now.outboxes.items c.loop.invariant.same c.read_once.ensures.same;
    }

pub returns-then-last-clause-same : goal.returns-then-last-clause-same
returns-then-last-clause-same g c = same_through c.args.job.now.outboxes.items c.loop.job.outboxes.items c.read_once.new.job.outboxes.items c.loop.invariant.same c.read_once.ensures.same

pub returns-in-Ok-Ended-clause-same : goal.returns-in-Ok-Ended-clause-same
returns-in-Ok-Ended-clause-same g c = same_through c.args.job.now.outboxes.items c.loop.job.outboxes.items c.read_once.new.job.outboxes.items c.loop.invariant.same c.read_once.ensures.same

pub returns-in-Err-clause-same : goal.returns-in-Err-clause-same
returns-in-Err-clause-same g c = same_through c.args.job.now.outboxes.items c.loop.job.outboxes.items c.read_once.new.job.outboxes.items c.loop.invariant.same c.read_once.ensures.same
