use Rattle.std.proofs.Common.{◌≡◌, ◌++◌, drop}
use Rattle.std.specs.List.{filter_map}
use Rattle.yp_changes.specs.Commits.{given_value}
use Rattle.yp_changes.proofs.commit.given_values.Given as goal

abbrev pub invariant-loop-change : goal.invariant-loop-change
invariant-loop-change l = l.values.items ++ filter_map given_value (drop l.change-index l.changed) ≡ filter_map given_value l.changed
