use Rattle.std.proofs.Common.{◌≡◌, map}
use Rattle.std.specs.Prelude.{All}
use Rattle.yp_script.specs.declared.gathered.Gathered.{Gathered}
use Rattle.yp_script.specs.Commands.{AreBounded}
use Rattle.yp_script.proofs.gathered.lanes_of.Given as goal

abbrev pub invariant-loop-lane : goal.invariant-loop-lane
invariant-loop-lane l = record {
  same : l.made.items ≡ map (λ (lane : Gathered). lane.commands.items) l.yielded;
  bounds : All AreBounded l.made.items;
}
