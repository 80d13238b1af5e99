use Rattle.std.proofs.Common.{◌≡◌, ◌∷◌, ◌++◌, sym, ap, subst, ◌∙◌}
use Rattle.std.specs.Prelude.{is_some}
use Rattle.yp_base.specs.Rows.{AreInOrder, value_at}
use Rattle.yp_tree.proofs.Halves.{order_before, order_after, found_before, found_middle, found_after}
use Rattle.yp_base.specs.RowLaws.{rest_order}
use Rattle.yp_tree.proofs.rising.has_path.Goals as goal

pub returns-in-Equal : goal.returns-in-Equal
returns-in-Equal c =
    let whole : c.loop-middle.rest.now ≡ c.split_at.result.0.now ++ c.in-Some.middle.now ∷ c.in-Some.later.now = c.split_at.ensures.by_index.0 ∙ ap (λ rows. c.split_at.result.0.now ++ rows) c.in-Some.ensures.cases.0 in
    sym (ap (λ rows. is_some (value_at c.args.path.now rows)) whole ∙ found_middle c.args.path.now c.split_at.result.0.now c.in-Some.middle.now c.in-Some.later.now (sym c.in-Equal.ensures))
    ∙ c.loop-middle.invariant.so_far

pub loop-middle-preserved-in-Less : goal.loop-middle-preserved-in-Less
loop-middle-preserved-in-Less c =
    let whole : c.loop-middle.rest.now ≡ c.split_at.result.0.now ++ c.in-Some.middle.now ∷ c.in-Some.later.now = c.split_at.ensures.by_index.0 ∙ ap (λ rows. c.split_at.result.0.now ++ rows) c.in-Some.ensures.cases.0 in
    let order = subst AreInOrder whole c.loop-middle.invariant.order in
    record {
      order = order_before c.split_at.result.0.now (c.in-Some.middle.now ∷ c.in-Some.later.now) order;
      so_far =
          ap is_some (found_before c.args.path.now c.split_at.result.0.now c.in-Some.middle.now c.in-Some.later.now order (sym c.in-Less.ensures))
          ∙ ap (λ rows. is_some (value_at c.args.path.now rows)) (sym whole)
          ∙ c.loop-middle.invariant.so_far;
    }

pub loop-middle-preserved : goal.loop-middle-preserved
loop-middle-preserved c =
    let whole : c.loop-middle.rest.now ≡ c.split_at.result.0.now ++ c.in-Some.middle.now ∷ c.in-Some.later.now = c.split_at.ensures.by_index.0 ∙ ap (λ rows. c.split_at.result.0.now ++ rows) c.in-Some.ensures.cases.0 in
    let order = subst AreInOrder whole c.loop-middle.invariant.order in
    record {
      order = rest_order c.in-Some.middle.now c.in-Some.later.now (order_after c.split_at.result.0.now c.in-Some.middle.now c.in-Some.later.now order);
      so_far =
          ap is_some (found_after c.args.path.now c.split_at.result.0.now c.in-Some.middle.now c.in-Some.later.now order (sym c.in-Greater.ensures))
          ∙ ap (λ rows. is_some (value_at c.args.path.now rows)) (sym whole)
          ∙ c.loop-middle.invariant.so_far;
    }
