use Rattle.std.proofs.Common.{◌≡◌, drop, length}
use Rattle.yp_touch.proofs.touched.same_paths.Given as goal

-- they are one, where what is left of both is
abbrev pub invariant-loop-at : goal.invariant-loop-at
invariant-loop-at l = (length l.one ≡ length l.other) × (drop l.at l.one ≡ drop l.at l.other → l.one ≡ l.other)
