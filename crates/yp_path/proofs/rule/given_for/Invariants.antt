use Rattle.std.proofs.Common.{◌≡◌, drop}
use Rattle.yp_path.specs.RulePaths.{given_for}
use Rattle.yp_path.proofs.rule.given_for.Given as goal

abbrev pub invariant-loop-predicate : goal.invariant-loop-predicate
invariant-loop-predicate l = given_for l.schema l.node l.keys l.key (drop l.predicate-index l.predicates) ≡ given_for l.schema l.node l.keys l.key l.predicates
