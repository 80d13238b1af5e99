use Rattle.std.proofs.Common.{◌≡◌, length}
use Rattle.std.specs.Prelude.{All}
use Rattle.world_cases.specs.Companions.{Accompanies}
use Rattle.world_cases.proofs.companions.open_workers.Given as goal

abbrev pub invariant-loop-worker : goal.invariant-loop-worker
invariant-loop-worker l = record {
  count : length l.opened.items ≡ l.worker;
  stand : All (Accompanies l.schema l.receivers) l.opened.items;
}
