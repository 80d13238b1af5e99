use Rattle.std.proofs.Common.{◌≡◌, ◌+◌, length}
use Rattle.std.specs.Prelude.{fold, sum_by}
use Rattle.yp_live.proofs.trees.count_rows.Given as goal

-- those so far and those that are left are all
abbrev pub invariant-loop-holding : goal.invariant-loop-holding
invariant-loop-holding g l = fold (λ count tree. count + length tree.1) l.count l.left ≡ sum_by (λ tree. length tree.1) l.fn.trees
