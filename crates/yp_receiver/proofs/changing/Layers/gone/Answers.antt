use Rattle.std.proofs.Common.{◌+◌, ◌<◌, ◌++◌, List, length, take, Bor, sym, ap, subst, ◌∙◌, arith}
use Rattle.std.specs.Prelude.{option_copied}
use Rattle.yp_base.specs.declared.path.Seg.{Seg}
use Rattle.yp_base.specs.Rows.{rows_within}
use Rattle.yp_receiver.specs.Gone.{lost_paths}
use Rattle.yp_receiver.proofs.Gone.{AreSwept, AreLost, swept_more, lost_more, swept_same, lost_same}
use Rattle.yp_receiver.proofs.changing.Layers.gone.Goals as goal
use Rattle.yp_receiver.proofs.changing.Layers.gone.Goals.{then-not-is_covered+in_ok-add_lost, else-not-is_covered}

pub loop-target-preserved : goal.loop-target-preserved
loop-target-preserved g c =
    let targets : List (Bor (List Seg)) = c.as_slice-target-items.result.now in
    let news = c.args.self.now.news in
    let rows = c.args.self.now.rows.now in
    let i = c.loop-target.target-index in
    let target = c.target-item.result in
    let here : i < length targets = omega arith in
    let at = c.target-item.is in
    let before = c.loop-target.invariant in
    elim c.if-not-is_covered.branch [
      | then-not-is_covered+in_ok-add_lost w ↦ record {
        swept = subst (λ swept. AreSwept (take (i + 1) targets) (option_copied swept)) (sym w.swept-is) (swept_more targets i target here at);
        lost =
            lost_more targets i target here at news rows c.loop-target.gone.items c.if-not-is_covered.gone.items
            (ap (λ paths. paths.items) w.gone-is ∙ w.in_ok-add_lost.ensures.lost ∙ ap (λ self. c.loop-target.gone.items ++ lost_paths self.news (rows_within target.now self.rows.now)) before.same) before.lost;
        same = w.self-is ∙ w.add_lost.ensures.same ∙ before.same;
      }
      | else-not-is_covered w ↦
          let below = sym c.is_covered.ensures ∙ w.if-not-is_covered.false in
          record {
            swept = subst (λ swept. AreSwept (take (i + 1) targets) (option_copied swept)) (sym w.swept-is) (swept_same targets i target here at (option_copied c.loop-target.swept) below before.swept);
            lost = subst (AreLost (take (i + 1) targets) news rows) (sym (ap (λ paths. paths.items) w.gone-is)) (lost_same targets i target here at (option_copied c.loop-target.swept) below before.swept news rows c.loop-target.gone.items before.lost);
            same = w.self-is ∙ before.same;
          }
    ]
