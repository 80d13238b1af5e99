use Rattle.std.proofs.Common.{◌≡◌, [], drop}
use Rattle.yp_base.specs.Rows.{changed_by}
use Rattle.yp_receiver.proofs.changing.changed_from_none.Given as goal

-- the edits that are left come to what all come to
abbrev pub invariant-loop-change : goal.invariant-loop-change
invariant-loop-change l = changed_by (drop l.change-index l.changes) l.rows ≡ changed_by l.changes []
