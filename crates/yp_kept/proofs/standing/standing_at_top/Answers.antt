use Rattle.std.proofs.Common.{◌∷◌, ◌++◌, [], ◌∙◌, ap}
use Rattle.yp_kept.proofs.Led.{top_visits, no_visits}
use Rattle.yp_kept.proofs.standing.standing_at_top.Goals.{then-branch+in_ok-push, else-branch}
use Rattle.yp_kept.proofs.standing.standing_at_top.Goals as goal

pub returns-clause-visits : goal.returns-clause-visits
returns-clause-visits g c = elim c.if-branch.branch [
  | then-branch+in_ok-push w ↦
      top_visits c.all_hold.new.steps c.args.steps.now c.args.set c.items.result.now c.if-branch.sets.items c.items.ensures c.in_ok-all_hold.ensures.visits
      (ap (λ sets. sets.items) w.sets-is ∙ w.in_ok-push.ensures.items ∙ ap (λ sets. sets ++ c.args.set ∷ []) c.new-sets.ensures.items)
  | else-branch w ↦
      no_visits c.all_hold.new.steps c.args.steps.now c.args.set.now c.items.result.now c.if-branch.sets.items c.items.ensures c.in_ok-all_hold.ensures.visits
      (ap (λ sets. sets.items) w.sets-is ∙ c.new-sets.ensures.items)
]
