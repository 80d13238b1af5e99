use Rattle.std.proofs.Common.{◌≡◌, ◌+◌, ◌*◌, ◌∙◌, arith}
use Rattle.yp_live.proofs.Running.{goes_more, goes_same, goes_through, still_on, no_more}
use Rattle.yp_live.proofs.run.answer_all.Goals as goal

pub returns-then-not-branch-clause-through : goal.returns-then-not-branch-clause-through
returns-then-not-branch-clause-through c =
    goes_through c.args.schema.now c.args.run.now.worker c.loop-feed.run.worker c.answer_some.new.run.worker c.args.run.now.desks.items c.loop-feed.run.desks.items c.answer_some.new.run.desks.items
    (15 * c.loop-feed._feed) 15 c.in_ok-answer_some.field-0 c.if-not-branch.true c.loop-feed.invariant.goes c.in_ok-answer_some.ensures.goes

pub loop-feed-preserved : goal.loop-feed-preserved
loop-feed-preserved c =
    let one =
    goes_more c.args.schema.now c.args.run.now.worker c.loop-feed.run.worker c.answer_some.new.run.worker c.args.run.now.desks.items c.loop-feed.run.desks.items c.answer_some.new.run.desks.items
    (15 * c.loop-feed._feed) 15 c.in_ok-answer_some.field-0 c.if-not-branch.false c.loop-feed.invariant.goes c.in_ok-answer_some.ensures.goes in
    let same : 15 * c.loop-feed._feed + 15 ≡ 15 * (c.loop-feed._feed + 1) = omega arith in
    let goes = goes_same c.args.schema.now c.args.run.now.worker c.answer_some.new.run.worker c.args.run.now.desks.items c.answer_some.new.run.desks.items (15 * c.loop-feed._feed + 15) (15 * (c.loop-feed._feed + 1)) same one in
    record {
      way = still_on c.args.schema.now c.args.run.now.worker c.answer_some.new.run.worker c.args.run.now.desks.items c.answer_some.new.run.desks.items (15 * (c.loop-feed._feed + 1)) c.requires goes;
      goes = goes;
      replies = c.in_ok-answer_some.ensures.replies ∙ c.loop-feed.invariant.replies;
    }

pub unreachable-requires : goal.unreachable-requires
unreachable-requires c =
    let last : c.loop-feed._feed ≡ c.feeds-feed-end.result = omega (arith, c.loop-feed-test.false, c.loop-feed.auto._feed-end) in
    let goes =
    goes_more c.args.schema.now c.args.run.now.worker c.loop-feed.run.worker c.answer_some-2.new.run.worker c.args.run.now.desks.items c.loop-feed.run.desks.items c.answer_some-2.new.run.desks.items
    (15 * c.loop-feed._feed) 15 c.in_ok-answer_some-2.field-0 c.if-branch.true c.loop-feed.invariant.goes c.in_ok-answer_some-2.ensures.goes in
    no_more c.a_serial_run_goes_on_offer_by_offer.ensures.most c.a_worker_offers_what_its_run_offers.ensures.feeds
    c.args.schema.now c.args.run.now.worker c.answer_some-2.new.run.worker c.args.run.now.desks.items c.answer_some-2.new.run.desks.items c.loop-feed._feed (last ∙ c.feeds-feed-end.ensures) c.requires goes

pub returns-clause-through : goal.returns-clause-through
returns-clause-through c =
    goes_through c.args.schema.now c.args.run.now.worker c.loop-feed.run.worker c.answer_some-2.new.run.worker c.args.run.now.desks.items c.loop-feed.run.desks.items c.answer_some-2.new.run.desks.items
    (15 * c.loop-feed._feed) 15 c.in_ok-answer_some-2.field-0 c.if-branch.false c.loop-feed.invariant.goes c.in_ok-answer_some-2.ensures.goes
