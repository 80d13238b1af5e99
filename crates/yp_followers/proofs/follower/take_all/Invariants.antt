use Rattle.std.proofs.Common.{take, drop}
use Rattle.yp_journal.specs.History.{IsLegal}
use Rattle.yp_followers.specs.Followers.{AreSameOutboxes, IsUpToSome, TakesIn}
use Rattle.yp_followers.proofs.follower.take_all.Given as goal

-- the entries so far were taken in, and those that are left are legal from there
abbrev pub invariant-loop-entry : goal.invariant-loop-entry
invariant-loop-entry g l = record {
  ready : IsUpToSome l.schema l.worker l.outboxes.items;
  legal : IsLegal l.schema l.worker.state (drop l.entry-index l.fresh);
  taken : TakesIn l.schema (take l.entry-index l.fresh) l.fn.worker l.fn.outboxes.items l.worker l.outboxes.items;
  same : AreSameOutboxes l.fn.outboxes.items l.outboxes.items;
}
