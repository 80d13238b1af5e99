use Rattle.std.proofs.Common.{◌≡◌, ◌++◌, drop, map, filter}
use Rattle.yp_nacm.specs.Own.{decides_reading, own_rule}
use Rattle.yp_nacm.proofs.compile.take_rules.Given as goal

abbrev pub invariant-loop-rule : goal.invariant-loop-rule
invariant-loop-rule l = l.own.items ++ map own_rule (filter decides_reading (drop l.rule-index l.rules)) ≡ l.fn.own.items ++ map own_rule (filter decides_reading l.rules)
