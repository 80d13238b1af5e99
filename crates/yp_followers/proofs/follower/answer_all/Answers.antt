use Rattle.std.proofs.Common.{true, false}
use Rattle.yp_followers.proofs.Following.{goes_more, still_on}
use Rattle.yp_followers.proofs.Outboxes.{same_boxes, same_through}
use Rattle.yp_followers.proofs.follower.answer_all.Goals as goal

pub loop-init : goal.loop-init
loop-init g c = record {
  way = c.requires;
  goes = λ start receivers mine before absorbed opened f. f;
  same = same_boxes c.args.outboxes.now.items;
}

pub loop-preserved : goal.loop-preserved
loop-preserved g c =
    let nodes = c.args.schema.now in
    let boxes = c.args.outboxes.now.items in
    let left = c.answer_next.new.outboxes.items in
    let goes =
    goes_more nodes c.args.worker.now c.loop.worker boxes c.loop.outboxes.items c.in_ok-answer_next.field-0 true c.answer_next.new.worker left c.if-not-branch.false c.loop.invariant.goes c.in_ok-answer_next.ensures.goes in
    record {
      way = still_on nodes c.args.worker.now c.answer_next.new.worker boxes left c.requires goes;
      goes = goes;
      same = same_through boxes c.loop.outboxes.items left c.loop.invariant.same c.answer_next.ensures.same;
    }

pub returns-in_err-answer_next-clause-same : goal.returns-in_err-answer_next-clause-same
returns-in_err-answer_next-clause-same g c = same_through c.args.outboxes.now.items c.loop.outboxes.items c.answer_next.new.outboxes.items c.loop.invariant.same c.answer_next.ensures.same

pub returns-then-not-branch-clause-through : goal.returns-then-not-branch-clause-through
returns-then-not-branch-clause-through g c =
    goes_more c.args.schema.now c.args.worker.now c.loop.worker c.args.outboxes.now.items c.loop.outboxes.items c.in_ok-answer_next.field-0 false c.answer_next.new.worker c.answer_next.new.outboxes.items
    c.if-not-branch.true c.loop.invariant.goes c.in_ok-answer_next.ensures.goes

pub returns-then-not-branch-clause-same : goal.returns-then-not-branch-clause-same
returns-then-not-branch-clause-same g c = same_through c.args.outboxes.now.items c.loop.outboxes.items c.answer_next.new.outboxes.items c.loop.invariant.same c.answer_next.ensures.same
