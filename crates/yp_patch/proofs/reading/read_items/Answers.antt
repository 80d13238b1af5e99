use Rattle.std.proofs.Common.{arith}
use Rattle.yp_patch.proofs.Items.{one_more_at}
use Rattle.yp_patch.proofs.reading.read_items.Goals as goal

pub loop-item-preserved : goal.loop-item-preserved
loop-item-preserved c = record {
  read = one_more_at c.deref-item-items.result.now c.loop-item.item-index c.item-item.result c.loop-item.edits.items c.push.new.self.items c.in-Ok.edit _ (omega arith) c.item-item.is c.in-Ok.ensures c.in_ok-push-in-Ok.ensures.items c.loop-item.invariant.read;
  count = omega (arith, c.loop-item.invariant.count, c.in_ok-push-in-Ok.ensures.len);
}
