use Rattle.std.proofs.Common.{◌≡◌, ◌++◌, drop}
use Rattle.std.specs.List.{filter_map}
use Rattle.yp_changes.specs.Commits.{added_row}
use Rattle.yp_changes.proofs.commit.added_rows.Given as goal

abbrev pub invariant-loop-change : goal.invariant-loop-change
invariant-loop-change l = l.rows.items ++ filter_map added_row (drop l.change-index l.changed) ≡ filter_map added_row l.changed
