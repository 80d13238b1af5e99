use Rattle.std.proofs.Common.{◌≡◌, ◌+◌, drop}
use Rattle.std.specs.Prelude.{fold, sum_by}
use Rattle.yp_live.specs.Counts.{count_desk}
use Rattle.yp_live.proofs.summary.count_told.Given as goal

-- those so far and those of the desks that are left are all
abbrev pub invariant-loop-desk : goal.invariant-loop-desk
invariant-loop-desk l = fold (λ count desk. count + count_desk l.counted desk) l.count (drop l.desk-index l.desks) ≡ sum_by (count_desk l.fn.counted) l.fn.desks
