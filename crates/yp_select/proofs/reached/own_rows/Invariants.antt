use Rattle.std.proofs.Common.{◌≤◌, ◌+◌, take}
use Rattle.yp_base.specs.Rows.{AreInOrder}
use Rattle.yp_select.specs.Reaches.{is_one_of, AreThose}
use Rattle.yp_select.proofs.reached.own_rows.Given as goal

-- the rows of the paths so far are there
abbrev pub invariant-loop-path : goal.invariant-loop-path
invariant-loop-path g l = record {
  those : AreThose (is_one_of (take l.path-index l.paths)) l.tree l.rows;
  order : AreInOrder l.rows;
  visits : l.steps ≤ l.fn.steps + l.path-index;
}
