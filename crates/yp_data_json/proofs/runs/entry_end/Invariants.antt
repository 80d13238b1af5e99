use Rattle.std.proofs.Common.{◌-◌}
use Rattle.yp_data_json.specs.Runs.{EndsBetween}
use Rattle.yp_data_json.proofs.runs.entry_end.Given as goal

abbrev pub invariant-loop-low : goal.invariant-loop-low
invariant-loop-low l = EndsBetween l.depth l.seg l.rows l.low l.high

abbrev pub decreases-loop-low : goal.decreases-loop-low
decreases-loop-low l = l.high - l.low
