use Rattle.std.proofs.Common.{◌≡◌, ◌+◌, ◌≤◌, drop}
use Rattle.yp_live.specs.Counts.{count_log}
use Rattle.yp_live.proofs.desk.count_log.Given as goal

-- those so far and those of what is left are all
abbrev pub invariant-loop-logged : goal.invariant-loop-logged
invariant-loop-logged l = record {
  most : l.count ≤ l.logged-index;
  all : l.count + count_log l.counted l.left (drop l.logged-index l.log) ≡ count_log l.fn.counted l.fn.taken l.fn.log;
}
