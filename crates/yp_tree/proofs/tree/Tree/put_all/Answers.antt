use Rattle.yp_tree.proofs.Renewal.{one_longer, one_more_put}
use Rattle.yp_tree.proofs.tree.Tree.put_all.Goals as goal

pub loop-row-preserved : goal.loop-row-preserved
loop-row-preserved c =
    let more = one_more_put c.args.rows.now c.items-row-items.result.now c.loop-row.olds.items c.put_copy.new.olds.items c.loop-row.row-index c.row-item.result c.loop-row.self c.put_copy.new.self c.args.self.now
    c.items-row-items.ensures c.loop-row-test.true c.row-item.is c.loop-row.invariant.count c.in-Ok.ensures.rows c.in-Ok.ensures.old c.in-Ok.ensures.back c.loop-row.invariant.rows c.loop-row.invariant.olds in
    record {
      count = one_longer c.loop-row.olds.items c.put_copy.new.olds.items _ c.loop-row.row-index c.in-Ok.ensures.old c.loop-row.invariant.count;
      rows = more.0;
      olds = more.1;
    }
