use Rattle.std.proofs.Common.{◌≡◌, List, ◌++◌, length}
use Rattle.yp_base.specs.declared.row.Row.{Row}
use Rattle.yp_data_json.specs.Runs.{AllGoThrough}
use Rattle.yp_data_json.proofs.runs.split_run.Given as goal

abbrev pub invariant-loop-first : goal.invariant-loop-first
invariant-loop-first l = (run : List Row) × (l.rows ≡ run ++ l.others) × AllGoThrough l.depth l.node run

abbrev pub decreases-loop-first : goal.decreases-loop-first
decreases-loop-first l = length l.others
