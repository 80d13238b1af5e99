use Rattle.std.proofs.Common.{◌≡◌, take}
use Rattle.yp_touch.proofs.touched.copies_of.Given as goal

-- the copies so far are the paths so far
abbrev pub invariant-loop-path : goal.invariant-loop-path
invariant-loop-path l = l.copies.items ≡ take l.path-index l.paths
