use Rattle.std.proofs.Common.{◌≡◌, true, take}
use Rattle.std.specs.List.{AllByRecursion}
use Rattle.yp_handover.proofs.closing.is_whole.Given as goal

-- the receivers so far are whole
abbrev pub invariant-loop-taker : goal.invariant-loop-taker
invariant-loop-taker l = AllByRecursion (λ taker. taker.whole ≡ true) (take l.taker-index l.group.takers.items)
