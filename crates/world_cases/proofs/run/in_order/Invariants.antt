use Rattle.std.proofs.Common.{◌≡◌, ◌++◌}
use Rattle.std.specs.Prelude.{flat_map}
use Rattle.std.specs.Vec.Iter.{into_iter_items}
use Rattle.world_cases.proofs.run.in_order.Given as goal

-- the commands so far and those of the lanes that are left are those before the lanes and of all lanes
abbrev pub invariant-loop-lane : goal.invariant-loop-lane
invariant-loop-lane l = record {
  commands : l.all.items ++ flat_map (λ lane. lane) (into_iter_items l.lane-iterator) ≡ l.fn.before ++ flat_map (λ lane. lane) l.fn.lanes;
}
