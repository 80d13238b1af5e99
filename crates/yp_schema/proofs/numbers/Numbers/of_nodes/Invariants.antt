use Rattle.std.proofs.Common.{◌≡◌, ◌++◌, length}
use Rattle.yp_schema.specs.Rounds.{Nodes}
use Rattle.yp_schema.specs.Reading.{numbers_from}
use Rattle.yp_schema.proofs.numbers.Numbers.of_nodes.Given as goal

abbrev pub invariant-loop-path : goal.invariant-loop-path
invariant-loop-path l = (done : Nodes) × (l.nodes.entries ≡ done ++ l.path-iterator) × (l.kept.entries ≡ numbers_from 0 done) × (l.place ≡ length done)
