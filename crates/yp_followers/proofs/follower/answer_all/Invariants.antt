use Rattle.std.proofs.Common.{true}
use Rattle.yp_followers.specs.Followers.{AnswersIf, AreSameOutboxes, IsOnSomeWay}
use Rattle.yp_followers.proofs.follower.answer_all.Given as goal

-- offers were answered, and there may be more
abbrev pub invariant-loop : goal.invariant-loop
invariant-loop g l = record {
  way : IsOnSomeWay l.schema l.worker l.outboxes.items;
  goes : AnswersIf true l.schema l.fn.worker l.fn.outboxes.items l.worker l.outboxes.items;
  same : AreSameOutboxes l.fn.outboxes.items l.outboxes.items;
}
