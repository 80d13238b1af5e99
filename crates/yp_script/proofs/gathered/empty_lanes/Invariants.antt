use Rattle.std.proofs.Common.{◌≡◌, [], map, replicate}
use Rattle.yp_script.specs.declared.gathered.Gathered.{Gathered}
use Rattle.yp_script.proofs.gathered.empty_lanes.Given as goal

abbrev pub invariant-loop-lane : goal.invariant-loop-lane
invariant-loop-lane l = map (λ (lane : Gathered). lane.commands.items) l.lanes.items ≡ replicate l._lane []
