use Rattle.std.proofs.Common.{◌≡◌, ◌+◌, ◌*◌, ◌∙◌, arith}
use Rattle.yp_listeners.proofs.Going.{goes_more, goes_same, goes_through, no_more, still_serving}
use Rattle.yp_listeners.proofs.serving.answer_all.Goals as goal

pub returns-then-not-branch-clause-served : goal.returns-then-not-branch-clause-served
returns-then-not-branch-clause-served c =
    goes_through c.args.schema.now c.args.worker.now c.loop-feed.worker c.answer_some.new.worker c.args.listeners.now.items c.loop-feed.listeners.items c.answer_some.new.listeners.items
    (15 * c.loop-feed._feed) 15 c.in_ok-answer_some.field-0 c.if-not-branch.true c.loop-feed.invariant.goes c.in_ok-answer_some.ensures.goes

pub loop-feed-preserved : goal.loop-feed-preserved
loop-feed-preserved c =
    let one =
    goes_more c.args.schema.now c.args.worker.now c.loop-feed.worker c.answer_some.new.worker c.args.listeners.now.items c.loop-feed.listeners.items c.answer_some.new.listeners.items
    (15 * c.loop-feed._feed) 15 c.in_ok-answer_some.field-0 c.if-not-branch.false c.loop-feed.invariant.goes c.in_ok-answer_some.ensures.goes in
    let same : 15 * c.loop-feed._feed + 15 ≡ 15 * (c.loop-feed._feed + 1) = omega arith in
    let goes = goes_same c.args.schema.now c.args.worker.now c.answer_some.new.worker c.args.listeners.now.items c.answer_some.new.listeners.items (15 * c.loop-feed._feed + 15) (15 * (c.loop-feed._feed + 1)) same one in
    record {
      serving = still_serving c.args.schema.now c.args.worker.now c.answer_some.new.worker c.args.listeners.now.items c.answer_some.new.listeners.items (15 * (c.loop-feed._feed + 1)) c.requires goes;
      goes = goes;
      numbers = c.answer_some.ensures.numbers ∙ c.loop-feed.invariant.numbers;
    }

pub unreachable-requires : goal.unreachable-requires
unreachable-requires c =
    let last : c.loop-feed._feed ≡ c.feeds-feed-end.result = omega (arith, c.loop-feed-test.false, c.loop-feed.auto._feed-end) in
    let goes =
    goes_more c.args.schema.now c.args.worker.now c.loop-feed.worker c.answer_some-2.new.worker c.args.listeners.now.items c.loop-feed.listeners.items c.answer_some-2.new.listeners.items
    (15 * c.loop-feed._feed) 15 c.in_ok-answer_some-2.field-0 c.if-branch.true c.loop-feed.invariant.goes c.in_ok-answer_some-2.ensures.goes in
    no_more c.offers_come_to_an_end.ensures.most c.a_worker_offers_what_its_run_offers.ensures.feeds
    c.args.schema.now c.args.worker.now c.answer_some-2.new.worker c.args.listeners.now.items c.answer_some-2.new.listeners.items c.loop-feed._feed (last ∙ c.feeds-feed-end.ensures) c.requires goes

pub returns-clause-served : goal.returns-clause-served
returns-clause-served c =
    goes_through c.args.schema.now c.args.worker.now c.loop-feed.worker c.answer_some-2.new.worker c.args.listeners.now.items c.loop-feed.listeners.items c.answer_some-2.new.listeners.items
    (15 * c.loop-feed._feed) 15 c.in_ok-answer_some-2.field-0 c.if-branch.false c.loop-feed.invariant.goes c.in_ok-answer_some-2.ensures.goes
