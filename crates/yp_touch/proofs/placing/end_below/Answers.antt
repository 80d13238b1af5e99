use Rattle.std.proofs.Common.{sym, ◌∙◌}
use Rattle.yp_touch.proofs.Standing.{left_stays}
use Rattle.yp_touch.proofs.placing.end_below.Goals as goal

pub returns-else-is_prefix-clause-left : goal.returns-else-is_prefix-clause-left
returns-else-is_prefix-clause-left c =
    c.loop-end.invariant.left
    ∙ left_stays c.args.path.now c.args.roots.now c.loop-end.end c.index-roots-end.result c.requires.order c.loop-end.invariant.after c.loop-end-test.true c.index-roots-end.is (sym c.is_prefix.ensures.value ∙ c.if-is_prefix.false)
