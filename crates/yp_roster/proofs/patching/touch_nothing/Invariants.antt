use Rattle.std.proofs.Common.{◌≡◌, [], drop}
use Rattle.std.specs.List.{AllByRecursion}
use Rattle.yp_roster.proofs.patching.touch_nothing.Given as goal

-- none has a root, where none of those that are left does
abbrev pub invariant-loop-step : goal.invariant-loop-step
invariant-loop-step l = AllByRecursion (λ step. step ≡ []) (drop l.step-index l.steps) → AllByRecursion (λ step. step ≡ []) l.steps
