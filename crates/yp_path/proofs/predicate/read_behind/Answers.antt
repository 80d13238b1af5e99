use Rattle.std.proofs.Common.{rules, List, ◌++◌, option_map, sym, ap, ◌∙◌}
use Rattle.yp_path.specs.declared.predicate.Predicate.{Predicate}
use Rattle.yp_path.specs.RulePaths.{predicates_behind}
use Rattle.yp_path.proofs.Predicates.{broken, unopened, one_more}
use Rattle.yp_path.proofs.predicate.read_behind.Goals as goal

pub returns-in-None : goal.returns-in-None
returns-in-None c =
    broken c.loop-body.predicates.items c.loop-body.rest.now _ c.loop-body.invariant.1 c.in-Some.body.now c.in-Some.more.now c.in-Some.ensures.0
    (sym c.in-None.is ∙ c.in_ok-predicate.ensures)

pub loop-body-preserved : goal.loop-body-preserved
loop-body-preserved c = (
  search rules,
  ap (λ (l : List Predicate). option_map (λ others. l ++ others) (predicates_behind c.in-Some-behind.next.now)) c.in_ok-push-in-Some-2.ensures.items
      ∙ one_more c.loop-body.predicates.items c.loop-body.rest.now _ c.loop-body.invariant.1 c.in-Some.body.now c.in-Some.more.now c.in-Some.ensures.0
      c.in-Some-2.predicate c.in-Some-behind.next.now (sym c.in-Some-2.is ∙ c.in_ok-predicate.ensures) c.in-Some-behind.ensures,
)

pub returns-in-None-behind : goal.returns-in-None-behind
returns-in-None-behind c =
    unopened c.loop-body.predicates.items c.loop-body.rest.now _ c.loop-body.invariant.1 c.in-Some.body.now c.in-Some.more.now c.in-Some.ensures.0
    (sym c.is_empty.ensures ∙ c.if-is_empty.false) c.in-None-behind.ensures
