use Rattle.std.proofs.Common.{◌≡◌, ◌||◌, drop, codes}
use Rattle.std.specs.List.{list_any}
use Rattle.yp_base.specs.Types.{is_among, same_text}
use Rattle.yp_nacm.specs.Policies.{is_for}
use Rattle.yp_nacm.proofs.compile.is_list_for.Given as goal

abbrev pub invariant-loop-name : goal.invariant-loop-name
invariant-loop-name l = list_any (λ name. same_text name (codes "*") || is_among name l.groups) (drop l.name-index l.name-items) ≡ is_for l.groups l.list
