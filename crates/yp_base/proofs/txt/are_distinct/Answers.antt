use Rattle.std.proofs.Common.{sym}
use Rattle.yp_base.proofs.Distinct.{seen_twice, distinct_next, seen_next}
use Rattle.yp_base.proofs.txt.are_distinct.Goals as goal

pub returns-then-not-branch : goal.returns-then-not-branch
returns-then-not-branch c =
    sym (seen_twice c.args.texts.now c.loop-text.text-index c.text-item.result c.as_str.result.now c.loop-text.seen.keys c.in_ok-insert.field-0 c.loop-text-test.true c.text-item.is c.as_str.ensures
    c.loop-text.invariant.seen c.in_ok-insert.ensures.added c.if-not-branch.true)

pub loop-text-preserved : goal.loop-text-preserved
loop-text-preserved c = record {
  distinct = distinct_next c.args.texts.now c.loop-text.text-index c.text-item.result c.as_str.result.now c.loop-text.seen.keys c.in_ok-insert.field-0 c.loop-text-test.true c.text-item.is c.as_str.ensures
      c.loop-text.invariant.seen c.in_ok-insert.ensures.added c.if-not-branch.false c.loop-text.invariant.distinct;
  seen = seen_next c.args.texts.now c.loop-text.text-index c.text-item.result c.as_str.result c.loop-text.seen.keys c.insert.new.self.keys c.loop-text-test.true c.text-item.is c.as_str.ensures
      c.in_ok-insert.ensures.keys c.loop-text.invariant.seen;
}
