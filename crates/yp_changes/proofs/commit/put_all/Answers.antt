use Rattle.std.proofs.Common.{List, subst}
use Rattle.std.specs.Vec.Iter.{into_iter_items}
use Rattle.yp_base.specs.declared.row.Row.{Row}
use Rattle.yp_changes.proofs.Committing.{Putting, one_put}
use Rattle.yp_changes.proofs.commit.put_all.Goals as goal

pub loop-row-preserved : goal.loop-row-preserved
loop-row-preserved c =
    one_put c.args.rows c.args.tree.now c.in-Some.row (into_iter_items c.next.new.self) c.loop-row.tree c.put.new.self
    (subst (λ (rest : List Row). Putting c.args.rows c.args.tree.now rest c.loop-row.tree) c.in-Some.ensures.steps.0 c.loop-row.invariant) c.in_ok-put.ensures.rows
