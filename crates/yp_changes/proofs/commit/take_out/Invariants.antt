use Rattle.std.proofs.Common.{◌≡◌, drop}
use Rattle.yp_changes.specs.Commits.{without_missing}
use Rattle.yp_changes.specs.CommitLaws.{new_value}
use Rattle.yp_changes.proofs.commit.take_out.Given as goal

abbrev pub invariant-loop-change : goal.invariant-loop-change
invariant-loop-change l = without_missing new_value (drop l.change-index l.changed) l.tree ≡ without_missing new_value l.changed l.fn.tree
