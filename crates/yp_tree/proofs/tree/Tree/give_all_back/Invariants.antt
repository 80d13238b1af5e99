use Rattle.std.proofs.Common.{◌≡◌, length, take}
use Rattle.yp_tree.specs.Listed.{undone}
use Rattle.yp_tree.proofs.tree.Tree.give_all_back.Given as goal

abbrev pub invariant-loop-old : goal.invariant-loop-old
invariant-loop-old l = undone (take (length l.olds.items) l.rows) l.olds.items l.self ≡ undone (take (length l.fn.olds.items) l.rows) l.fn.olds.items l.fn.self

abbrev pub decreases-loop-old : goal.decreases-loop-old
decreases-loop-old l = length l.olds.items
