use Rattle.std.proofs.Common.{◌≡◌, ◌≤◌, ◌-◌, drop, length, not}
use Rattle.std.specs.Prelude.{filter}
use Rattle.std.specs.List.{AllByRecursion}
use Rattle.std.specs.declared.cmp.Ordering.TheVariants.{Greater}
use Rattle.yp_base.specs.Order.{path_cmp, is_within}
use Rattle.yp_touch.proofs.placing.end_below.Given as goal

-- the paths so far are at or below the path
abbrev pub invariant-loop-end : goal.invariant-loop-end
invariant-loop-end l = record {
  from : l.at ≤ l.end;
  within : l.end ≤ length l.roots;
  left : filter (λ other. not (is_within l.path other)) (drop l.at l.roots) ≡ filter (λ other. not (is_within l.path other)) (drop l.end l.roots);
  after : AllByRecursion (λ other. path_cmp other l.path ≡ Greater) (drop l.end l.roots);
}

abbrev pub decreases-loop-end : goal.decreases-loop-end
decreases-loop-end l = length l.roots - l.end
