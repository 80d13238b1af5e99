use Rattle.std.proofs.Common.{◌≡◌, ◌++◌, drop}
use Rattle.yp_nacm.specs.Policies.{groups_of}
use Rattle.yp_nacm.proofs.compile.names_of_groups.Given as goal

abbrev pub invariant-loop-group : goal.invariant-loop-group
invariant-loop-group l = l.names.items ++ groups_of (drop l.group-index l.groups) l.user ≡ groups_of l.groups l.user
