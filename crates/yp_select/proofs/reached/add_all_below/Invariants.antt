use Rattle.std.proofs.Common.{◌≤◌, ◌+◌, ◌||◌, take, drop, List, Bool}
use Rattle.yp_base.specs.declared.path.Seg.{Seg}
use Rattle.yp_base.specs.Rows.{AreInOrder}
use Rattle.yp_select.specs.Reaches.{is_below, AreThose}
use Rattle.yp_select.proofs.Apart.{visits_below}
use Rattle.yp_select.proofs.reached.add_all_below.Given as goal

-- the rows at or below the paths so far are added, and the paths that are left take the visits that are left
abbrev pub invariant-loop-path : goal.invariant-loop-path
invariant-loop-path g l = record {
  those : (test : List Seg → Bool) → AreThose test l.tree l.fn.rows → AreThose (λ other. test other || is_below (take l.path-index l.paths) other) l.tree l.rows;
  order : AreInOrder l.rows;
  visits : l.steps + visits_below l.tree (drop l.path-index l.paths) ≤ l.fn.steps + visits_below l.tree l.paths;
}
