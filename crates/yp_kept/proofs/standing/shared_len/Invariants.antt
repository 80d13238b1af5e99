use Rattle.std.proofs.Common.{length, ◌-◌, ◌≡◌, ◌≤◌, take}
use Rattle.yp_kept.proofs.standing.shared_len.Given as goal

-- the segments so far are the same
abbrev pub invariant-loop-shared : goal.invariant-loop-shared
invariant-loop-shared l = record {
  same : take l.shared l.one ≡ take l.shared l.other;
  in_one : l.shared ≤ length l.one;
  in_other : l.shared ≤ length l.other;
}

abbrev pub decreases-loop-shared : goal.decreases-loop-shared
decreases-loop-shared l = length l.one - l.shared
