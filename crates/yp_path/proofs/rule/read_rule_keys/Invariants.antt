use Rattle.std.proofs.Common.{◌≡◌, ◌++◌, drop, option_map}
use Rattle.yp_path.specs.RulePaths.{rule_keys}
use Rattle.yp_path.proofs.rule.read_rule_keys.Given as goal

abbrev pub invariant-loop-key : goal.invariant-loop-key
invariant-loop-key l = option_map (λ rest. l.values.items ++ rest) (rule_keys l.schema l.node l.keys l.predicates (drop l.key-index l.keys)) ≡ rule_keys l.schema l.node l.keys l.predicates l.keys
