use Rattle.std.proofs.Common.{◌≡◌, drop}
use Rattle.yp_schema.specs.WellFormed.{is_empty}
use Rattle.yp_nacm.specs.Policies.{groups_of}
use Rattle.yp_nacm.proofs.execute.has_group.Given as goal

abbrev pub invariant-loop-group : goal.invariant-loop-group
invariant-loop-group l = is_empty (groups_of (drop l.group-index l.groups) l.user) ≡ is_empty (groups_of l.groups l.user)
