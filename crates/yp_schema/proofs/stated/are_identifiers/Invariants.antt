use Rattle.std.proofs.Common.{◌≡◌, drop}
use Rattle.yp_schema.specs.Stated.{all_names}
use Rattle.yp_schema.proofs.stated.are_identifiers.Given as goal

abbrev pub invariant-loop-name : goal.invariant-loop-name
invariant-loop-name l = all_names (drop l.name-index l.names) ≡ all_names l.names
