use Rattle.std.proofs.Common.{◌+◌, ◌-◌, ◌/◌, arith}
use Rattle.yp_data_json.proofs.Parts.{next_at}
use Rattle.yp_data_json.proofs.Entries.{run_further}
use Rattle.yp_data_json.proofs.runs.entry_end.Goals as goal

pub loop-low-preserved-then-has_segment : goal.loop-low-preserved-then-has_segment
loop-low-preserved-then-has_segment c =
    let l = c.loop-low in
    let middle = l.low + (l.high - l.low) / 2 in
    let row = c.index-rows-middle.result in
    let has = c.has_segment.ensures.is c.if-has_segment.true in
    let next = next_at c.args.rows.now middle row (omega (arith, c.loop-low-test.true, l.invariant.within)) c.index-rows-middle.is in record {
      order = omega (arith, c.loop-low-test.true);
      within = l.invariant.within;
      run = run_further c.args.depth c.args.seg.now c.args.rows.now middle row c.requires.order c.requires.first next has;
      apart = l.invariant.apart;
    }
