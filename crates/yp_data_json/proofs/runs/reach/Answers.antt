use Rattle.std.proofs.Common.{arith}
use Rattle.yp_data_json.proofs.Parts.{next_at}
use Rattle.yp_data_json.proofs.Entries.{run_further}
use Rattle.yp_data_json.proofs.runs.reach.Goals as goal

pub loop-high-preserved : goal.loop-high-preserved
loop-high-preserved c =
    let l = c.loop-high in
    let row = c.index-rows-high.result in
    let has = c.has_segment.ensures.is c.if-has_segment.true in
    let next = next_at c.args.rows.now l.high row c.loop-high-test.true c.index-rows-high.is in (
      omega arith,
      omega (arith, c.saturating_mul-high.ensures, l.invariant.0, l.invariant.1),
      omega arith,
      run_further c.args.depth c.args.seg.now c.args.rows.now l.high row c.requires.order c.requires.first next has,
    )
