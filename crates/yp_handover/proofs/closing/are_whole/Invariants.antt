use Rattle.std.proofs.Common.{◌≡◌, true, take}
use Rattle.std.specs.List.{AllByRecursion}
use Rattle.yp_handover.proofs.closing.are_whole.Given as goal

-- the receivers of the workers so far are whole
abbrev pub invariant-loop-group : goal.invariant-loop-group
invariant-loop-group l = AllByRecursion (λ group. AllByRecursion (λ taker. taker.whole ≡ true) group.takers.items) (take l.group-index l.groups)
