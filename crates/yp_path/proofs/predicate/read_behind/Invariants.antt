use Rattle.std.proofs.Common.{◌≡◌, ◌++◌, length, option_map}
use denote.Text.{Utf8}
use denote.Shadow.{shadow}
use Rattle.yp_path.specs.RulePaths.{predicates_behind}
use Rattle.yp_path.proofs.predicate.read_behind.Given as goal

abbrev pub invariant-loop-body : goal.invariant-loop-body
invariant-loop-body l = shadow (Utf8 l.rest) × (option_map (λ others. l.predicates.items ++ others) (predicates_behind l.rest) ≡ predicates_behind l.text)

abbrev pub decreases-loop-body : goal.decreases-loop-body
decreases-loop-body l = length l.rest
