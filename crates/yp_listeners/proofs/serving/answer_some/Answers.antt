use Rattle.std.proofs.Common.{◌≡◌, ◌+◌, ◌∙◌, arith}
use Rattle.yp_listeners.proofs.Going.{goes_more, goes_same, goes_through, still_serving}
use Rattle.yp_listeners.proofs.serving.answer_some.Goals as goal

pub returns-then-not-branch-clause-goes : goal.returns-then-not-branch-clause-goes
returns-then-not-branch-clause-goes c =
    goes_through c.args.schema.now c.args.worker.now c.loop-answer.worker c.answer_next.new.worker c.args.listeners.now.items c.loop-answer.listeners.items c.answer_next.new.listeners.items
    c.loop-answer._answer 1 c.in_ok-answer_next.field-0 c.if-not-branch.true c.loop-answer.invariant.goes c.in_ok-answer_next.ensures.goes

pub loop-answer-preserved : goal.loop-answer-preserved
loop-answer-preserved c =
    let goes =
    goes_more c.args.schema.now c.args.worker.now c.loop-answer.worker c.answer_next.new.worker c.args.listeners.now.items c.loop-answer.listeners.items c.answer_next.new.listeners.items
    c.loop-answer._answer 1 c.in_ok-answer_next.field-0 c.if-not-branch.false c.loop-answer.invariant.goes c.in_ok-answer_next.ensures.goes in
    record {
      serving = still_serving c.args.schema.now c.args.worker.now c.answer_next.new.worker c.args.listeners.now.items c.answer_next.new.listeners.items (c.loop-answer._answer + 1) c.requires goes;
      goes = goes;
      numbers = c.answer_next.ensures.numbers ∙ c.loop-answer.invariant.numbers;
    }

pub returns-clause-goes : goal.returns-clause-goes
returns-clause-goes c =
    let last : c.loop-answer._answer ≡ 15 = omega (arith, c.loop-answer-test.false, c.loop-answer.auto._answer-end) in
    goes_same c.args.schema.now c.args.worker.now c.loop-answer.worker c.args.listeners.now.items c.loop-answer.listeners.items c.loop-answer._answer 15 last c.loop-answer.invariant.goes
