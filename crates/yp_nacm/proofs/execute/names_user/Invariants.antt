use Rattle.std.proofs.Common.{◌≡◌, drop}
use Rattle.yp_base.specs.Types.{is_among}
use Rattle.yp_nacm.specs.Policies.{groups_of}
use Rattle.yp_nacm.proofs.execute.names_user.Given as goal

abbrev pub invariant-loop-group : goal.invariant-loop-group
invariant-loop-group l = is_among l.name (groups_of (drop l.group-index l.groups) l.user) ≡ is_among l.name (groups_of l.groups l.user)
