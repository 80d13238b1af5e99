use Rattle.std.specs.List.{AllByRecursion}
use Rattle.yp_encode.specs.Sendable.{IsSendableChange}
use Rattle.subscription_cases.proofs.notices.all_changes.Given as goal

abbrev pub invariant-loop-edit : goal.invariant-loop-edit
invariant-loop-edit l = AllByRecursion (IsSendableChange l.schema) l.changes.items
