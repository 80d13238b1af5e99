use Rattle.std.proofs.Common.{◌≡◌, [], replicate}
use Rattle.world_cases.proofs.companions.none_kept.Given as goal

abbrev pub invariant-loop-receiver : goal.invariant-loop-receiver
invariant-loop-receiver l = l.kept.items ≡ replicate l._receiver []
