use Rattle.std.proofs.Common.{◌≡◌, drop}
use Rattle.yp_changes.specs.Commits.{without_missing}
use Rattle.yp_changes.specs.CommitLaws.{old_value}
use Rattle.yp_changes.proofs.commit.take_back.Given as goal

abbrev pub invariant-loop-change : goal.invariant-loop-change
invariant-loop-change l = without_missing old_value (drop l.change-index l.changed) l.tree ≡ without_missing old_value l.changed l.fn.tree
