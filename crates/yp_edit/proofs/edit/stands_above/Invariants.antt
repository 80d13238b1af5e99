use Rattle.std.proofs.Common.{◌≡◌, ◌<◌, ◌++◌, length, true}
use Rattle.std.specs.List.{AllByRecursion, list_all}
use Rattle.yp_edit.specs.Patches.{has_its_row, paths_above, stand_above}
use Rattle.yp_edit.proofs.edit.stands_above.Given as goal

abbrev pub invariant-loop-segment : goal.invariant-loop-segment
invariant-loop-segment g l = record {
  whole : l.above ++ l.rest ≡ l.target;
  nodes : AllByRecursion (λ segment. segment.node < length l.schema) l.rest;
  passed : has_its_row l.schema l.trial.after l.above ≡ true;
  so_far : list_all (λ above. has_its_row l.schema l.trial.after (l.above ++ above)) (paths_above l.rest) ≡ stand_above l.schema l.target l.trial.after;
}

abbrev pub decreases-loop-segment : goal.decreases-loop-segment
decreases-loop-segment g l = length l.rest
