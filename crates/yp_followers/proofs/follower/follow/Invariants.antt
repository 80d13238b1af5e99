use Rattle.yp_followers.specs.Followers.{AreSameOutboxes, IsReady, KeepsUp}
use Rattle.yp_followers.proofs.follower.follow.Given as goal

-- the worker is up to date with what its reader got
abbrev pub invariant-loop : goal.invariant-loop
invariant-loop g l = record {
  ready : IsReady g.J.Naming.nodes g.J.Naming.opening l.job.reader.got.entries l.job.worker l.job.outboxes.items;
  followed : KeepsUp g.J.Naming.nodes g.J.Naming.opening l.fn.job.reader.got.entries l.fn.job.worker l.fn.job.outboxes.items l.job.reader.got.entries l.job.worker l.job.outboxes.items;
  same : AreSameOutboxes l.fn.job.outboxes.items l.job.outboxes.items;
}
