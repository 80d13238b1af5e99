use Rattle.std.proofs.Common.{◌≡◌, ◌+◌, ◌≤◌, ◌++◌, length}
use Rattle.std.specs.Prelude.{sum_by}
use Rattle.std.specs.Vec.Iter.{into_iter_items}
use Rattle.yp_turns.specs.Turns.{lane_turns}
use Rattle.yp_turns.proofs.turns.push_lanes.Given as goal

-- the turns so far and those of the lanes that are left are all
abbrev pub invariant-loop-commands : goal.invariant-loop-commands
invariant-loop-commands l = record {
  lane : l.lane + length (into_iter_items l.commands-iterator) ≡ 1 + length l.fn.lanes;
  short : sum_by (λ lane. length lane) (into_iter_items l.commands-iterator) ≤ sum_by (λ lane. length lane) l.fn.lanes;
  turns : l.turns.items ++ lane_turns l.lane (into_iter_items l.commands-iterator) ≡ l.fn.turns.items ++ lane_turns 1 l.fn.lanes;
}
