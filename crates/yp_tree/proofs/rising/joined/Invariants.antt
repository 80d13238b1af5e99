use Rattle.std.proofs.Common.{◌≡◌, ◌++◌}
use Rattle.yp_tree.proofs.rising.joined.Given as goal

abbrev pub invariant-loop-row : goal.invariant-loop-row
invariant-loop-row l = l.all.items ≡ l.fn.rows.items ++ l.yielded
