use Rattle.std.proofs.Common.{◌≡◌, ◌||◌, drop, codes}
use Rattle.std.specs.List.{list_any}
use Rattle.yp_base.specs.Types.{is_among, same_text}
use Rattle.yp_nacm.specs.Policies.{groups_of, is_for}
use Rattle.yp_nacm.proofs.execute.is_list_for_user.Given as goal

abbrev pub invariant-loop-name : goal.invariant-loop-name
invariant-loop-name l = list_any (λ name. same_text name (codes "*") || is_among name (groups_of l.groups l.user)) (drop l.name-index l.name-items) ≡ is_for (groups_of l.groups l.user) l.list
