use Rattle.std.proofs.Common.{◌≡◌, ◌++◌, drop, map, filter}
use Rattle.yp_nacm.specs.Own.{decides_reading, own_rule}
use Rattle.yp_nacm.specs.Policies.{is_for, rules_in}
use Rattle.yp_nacm.proofs.compile.take_lists.Given as goal

abbrev pub invariant-loop-list : goal.invariant-loop-list
invariant-loop-list l =
    l.own.items ++ map own_rule (filter decides_reading (rules_in (filter (is_for l.groups) (drop l.list-index l.lists))))
    ≡ l.fn.own.items ++ map own_rule (filter decides_reading (rules_in (filter (is_for l.groups) l.lists)))
