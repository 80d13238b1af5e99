use Rattle.std.proofs.Common.{◌-◌, ◌≤◌, length, take}
use Rattle.std.specs.List.{AllByRecursion}
use Rattle.yp_data_json.specs.Runs.{HasSegment}
use Rattle.yp_data_json.proofs.runs.reach.Given as goal

abbrev pub invariant-loop-high : goal.invariant-loop-high
invariant-loop-high l = (1 ≤ l.low) × (l.low ≤ l.high) × (l.low ≤ length l.rows) × AllByRecursion (HasSegment l.depth l.seg) (take l.low l.rows)

abbrev pub decreases-loop-high : goal.decreases-loop-high
decreases-loop-high l = length l.rows - l.high
