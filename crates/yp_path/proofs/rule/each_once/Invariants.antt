use Rattle.std.proofs.Common.{◌≡◌, length}
use Rattle.yp_path.specs.RulePaths.{each_once}
use Rattle.yp_path.proofs.rule.each_once.Given as goal

abbrev pub invariant-loop-predicate : goal.invariant-loop-predicate
invariant-loop-predicate l = each_once l.schema l.node l.keys l.rest ≡ each_once l.schema l.node l.keys l.predicates

abbrev pub decreases-loop-predicate : goal.decreases-loop-predicate
decreases-loop-predicate l = length l.rest
