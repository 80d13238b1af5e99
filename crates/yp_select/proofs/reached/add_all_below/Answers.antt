use Rattle.std.proofs.Common.{◌||◌, ◌+◌, take, arith}
use Rattle.yp_base.specs.Order.{is_within}
use Rattle.yp_select.specs.Reaches.{is_below}
use Rattle.yp_select.proofs.Those.{those_same}
use Rattle.yp_select.proofs.Apart.{below_more, visits_next, visits_most}
use Rattle.yp_select.proofs.reached.add_all_below.Goals as goal

pub loop-path-preserved : goal.loop-path-preserved
loop-path-preserved g c =
    let paths = c.args.paths.now in
    let k = c.loop-path.path-index in
    let path = c.path-item.result in
    let visits = c.in_ok-add_below.ensures.visits in
    record {
      those = λ test those.
          those_same (λ other. (test other || is_below (take k paths) other) || is_within path other) (λ other. test other || is_below (take (k + 1) paths) other) c.args.tree.now c.add_below.new.rows
          (λ other. below_more paths k path other (test other) c.loop-path-test.true c.path-item.is)
          (c.in_ok-add_below.ensures.those (λ other. test other || is_below (take k paths) other) (c.loop-path.invariant.those test those));
      order = c.in_ok-add_below.ensures.order;
      visits = omega (arith, visits, c.loop-path.invariant.visits, visits_next c.args.tree.now paths k path c.loop-path-test.true c.path-item.is);
    }

pub returns-clause-visits : goal.returns-clause-visits
returns-clause-visits g c = omega (arith, c.loop-path.invariant.visits, visits_most c.args.paths.now c.args.tree.now c.requires.apart)
