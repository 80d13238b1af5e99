use Rattle.std.proofs.Common.{◌≡◌, drop, filter}
use Rattle.yp_nacm.specs.Decision.{said_of_call}
use Rattle.yp_nacm.specs.Policies.{groups_of, is_for, rules_in}
use Rattle.yp_nacm.proofs.execute.word_of_lists.Given as goal

abbrev pub invariant-loop-list : goal.invariant-loop-list
invariant-loop-list l = said_of_call l.op (rules_in (filter (is_for (groups_of l.groups l.user)) (drop l.list-index l.lists))) ≡ said_of_call l.op (rules_in (filter (is_for (groups_of l.groups l.user)) l.lists))
