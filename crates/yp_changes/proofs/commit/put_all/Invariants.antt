use Rattle.std.specs.Vec.Iter.{into_iter_items}
use Rattle.yp_changes.proofs.Committing.{Putting}
use Rattle.yp_changes.proofs.commit.put_all.Given as goal

abbrev pub invariant-loop-row : goal.invariant-loop-row
invariant-loop-row l = Putting l.fn.rows l.fn.tree (into_iter_items l.row-iterator) l.tree
