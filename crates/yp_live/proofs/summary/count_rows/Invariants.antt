use Rattle.std.proofs.Common.{◌≡◌, ◌+◌, drop}
use Rattle.std.specs.Prelude.{fold, sum_by}
use Rattle.yp_live.specs.Counts.{desk_rows}
use Rattle.yp_live.proofs.summary.count_rows.Given as goal

-- those so far and those of the desks that are left are all
abbrev pub invariant-loop-desk : goal.invariant-loop-desk
invariant-loop-desk g l = fold (λ count desk. count + desk_rows desk) l.count (drop l.desk-index l.desks) ≡ sum_by desk_rows l.fn.desks
