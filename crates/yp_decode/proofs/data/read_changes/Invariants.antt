use Rattle.std.proofs.Common.{◌≡◌, ◌++◌, drop, Ok}
use Rattle.std.specs.List.{AllByRecursion}
use Rattle.yp_base.specs.Results.{◌>>=◌}
use Rattle.yp_decode.specs.Grammar.{edits_heard}
use Rattle.yp_decode.specs.Sound.{IsSoundChange}
use Rattle.yp_decode.specs.Readings.{seen_places}
use Rattle.yp_decode.proofs.data.read_changes.Given as goal

abbrev pub invariant-loop-edit : goal.invariant-loop-edit
invariant-loop-edit l = record {
  read : (edits_heard l.schema (seen_places (drop l.edit-index l.edits)) >>= λ more. Ok (l.changes.items ++ more)) ≡ edits_heard l.schema (seen_places l.edits);
  changes : AllByRecursion (IsSoundChange l.schema) l.changes.items;
}
