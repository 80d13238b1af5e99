use Rattle.std.proofs.Common.{ap, ◌∙◌}
use Rattle.yp_base.specs.Rows.{put_row}
use Rattle.yp_tree.proofs.Merging.{puts_step, puts_whole}
use Rattle.yp_tree.proofs.scattered.Scattered.of_rows.Goals as goal

pub loop-row-preserved : goal.loop-row-preserved
loop-row-preserved c = puts_step c.args.rows.now c.loop-row.scattered c.put.new.self c.loop-row.row-index c.row-item.result c.loop-row-test.true c.row-item.is c.loop-row.invariant (c.in_ok-put.ensures.rows ∙ ap (λ row. put_row row c.loop-row.scattered) c.in_ok-copy.ensures)

pub returns : goal.returns
returns c = puts_whole c.args.rows.now c.loop-row.scattered c.loop-row.row-index c.requires c.loop-row-test.false c.loop-row.invariant
