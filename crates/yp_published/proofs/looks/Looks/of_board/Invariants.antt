use Rattle.std.proofs.Common.{◌≡◌, ◌+◌, length, All}
use Rattle.yp_published.specs.Reads.{Sight, fresh_sight}
use Rattle.yp_published.proofs.looks.Looks.of_board.Given as goal

-- each place so far was given or refused
abbrev pub invariant-loop : goal.invariant-loop
invariant-loop g l = record {
  places : length l.handles.items + l.refused ≡ l.counter;
  fresh : All (λ (sight : Sight). sight ≡ fresh_sight) l.handles.items;
}
