use Rattle.std.proofs.Common.{◌≡◌, ◌+◌, ◌∙◌, arith}
use Rattle.yp_live.proofs.Running.{goes_more, goes_same, goes_through, still_on}
use Rattle.yp_live.proofs.run.answer_some.Goals as goal

pub returns-then-not-branch-clause-goes : goal.returns-then-not-branch-clause-goes
returns-then-not-branch-clause-goes c =
    goes_through c.args.schema.now c.args.run.now.worker c.loop-answer.run.worker c.answer_next.new.run.worker c.args.run.now.desks.items c.loop-answer.run.desks.items c.answer_next.new.run.desks.items
    c.loop-answer._answer 1 c.in_ok-answer_next.field-0 c.if-not-branch.true c.loop-answer.invariant.goes c.in_ok-answer_next.ensures.goes

pub loop-answer-preserved : goal.loop-answer-preserved
loop-answer-preserved c =
    let goes =
    goes_more c.args.schema.now c.args.run.now.worker c.loop-answer.run.worker c.answer_next.new.run.worker c.args.run.now.desks.items c.loop-answer.run.desks.items c.answer_next.new.run.desks.items
    c.loop-answer._answer 1 c.in_ok-answer_next.field-0 c.if-not-branch.false c.loop-answer.invariant.goes c.in_ok-answer_next.ensures.goes in
    record {
      way = still_on c.args.schema.now c.args.run.now.worker c.answer_next.new.run.worker c.args.run.now.desks.items c.answer_next.new.run.desks.items (c.loop-answer._answer + 1) c.requires goes;
      goes = goes;
      replies = c.in_ok-answer_next.ensures.replies ∙ c.loop-answer.invariant.replies;
    }

pub returns-clause-goes : goal.returns-clause-goes
returns-clause-goes c =
    let last : c.loop-answer._answer ≡ 15 = omega (arith, c.loop-answer-test.false, c.loop-answer.auto._answer-end) in
    goes_same c.args.schema.now c.args.run.now.worker c.loop-answer.run.worker c.args.run.now.desks.items c.loop-answer.run.desks.items c.loop-answer._answer 15 last c.loop-answer.invariant.goes
