use Rattle.std.proofs.Common.{◌≡◌, take}
use Rattle.yp_kept.proofs.matching.path_below.Given as goal

-- the segments so far are copied
abbrev pub invariant-loop-segment : goal.invariant-loop-segment
invariant-loop-segment l = l.segments.items ≡ take l.segment-index l.at
