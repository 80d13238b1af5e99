use Rattle.std.proofs.Common.{◌||◌, ◌+◌, sym, take, arith}
use Rattle.std.specs.Ordering.{is_eq}
use Rattle.yp_base.specs.Order.{path_cmp}
use Rattle.yp_select.specs.Reaches.{is_one_of}
use Rattle.yp_select.proofs.Those.{those_same}
use Rattle.yp_select.proofs.Apart.{own_more}
use Rattle.yp_select.proofs.reached.own_rows.Goals as goal

pub loop-path-preserved : goal.loop-path-preserved
loop-path-preserved g c =
    let paths = c.args.paths.now in
    let k = c.loop-path.path-index in
    let path = c.path-item.result in
    record {
      those = those_same (λ other. is_one_of (take k paths) other || is_eq (path_cmp other path)) (is_one_of (take (k + 1) paths)) c.args.tree.now c.add_own.new.rows
          (λ other. sym (own_more paths k path other c.loop-path-test.true c.path-item.is))
          (c.in_ok-add_own.ensures.those (is_one_of (take k paths)) c.loop-path.invariant.those);
      order = c.in_ok-add_own.ensures.order;
      visits = omega (arith, c.in_ok-add_own.ensures.visits, c.loop-path.invariant.visits);
    }
