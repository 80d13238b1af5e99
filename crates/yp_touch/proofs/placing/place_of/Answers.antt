use Rattle.std.proofs.Common.{◌≡◌, ◌-◌, suc, sym, subst, ◌∙◌, arith}
use Rattle.yp_touch.specs.Looked.{StandsAt}
use Rattle.yp_touch.proofs.Standing.{paths_searched, stands_at, item_same, first_free, later_free}
use Rattle.yp_touch.proofs.placing.place_of.Goals.{else-at-gt0-via-then-at-gt0+else-is_prefix, else-at-gt0-via-else-at-gt0}
use Rattle.yp_touch.proofs.placing.place_of.Goals as goal

pub returns-in-Ok-clause-covered : goal.returns-in-Ok-clause-covered
returns-in-Ok-clause-covered c = sym (item_same c.args.path.now c.args.roots.now c.in-Ok.field-0 c.in-Ok.ensures.bound c.in-Ok.ensures.ok)

pub returns-else-at-gt0-clause-place : goal.returns-else-at-gt0-clause-place
returns-else-at-gt0-clause-place c = stands_at c.args.path.now c.args.roots.now c.in-Err.at c.in-Err.ensures.bound (c.in-Err.ensures.position (paths_searched c.args.path.now c.args.roots.now c.requires.in_order))

pub returns-else-at-gt0-clause-covered : goal.returns-else-at-gt0-clause-covered
returns-else-at-gt0-clause-covered c =
    let path = c.args.path.now in
    let roots = c.args.roots.now in
    let stands = stands_at path roots c.in-Err.at c.in-Err.ensures.bound (c.in-Err.ensures.position (paths_searched path roots c.requires.in_order)) in
    elim c.else-at-gt0.branch [
      | else-at-gt0-via-then-at-gt0+else-is_prefix w ↦
          let e : c.in-Err.at ≡ suc (c.in-Err.at - 1) = omega (arith, w.if-at-gt0.true) in
          sym (later_free path roots (c.in-Err.at - 1) w.index-roots-at.result c.requires.in_order c.requires.topmost (subst (StandsAt path roots) e stands) w.index-roots-at.is (sym w.is_prefix.ensures.value ∙ w.if-is_prefix.false))
      | else-at-gt0-via-else-at-gt0 w ↦
          let e : c.in-Err.at ≡ 0 = omega (arith, w.if-at-gt0.false) in
          sym (first_free path roots (subst (StandsAt path roots) e stands))
    ]
