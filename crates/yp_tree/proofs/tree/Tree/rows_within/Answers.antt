use Rattle.std.proofs.Common.{◌++◌, arith, ap, ◌∙◌, length}
use Rattle.yp_base.specs.Rows.{rows_within, rows_of}
use Rattle.yp_tree.proofs.Cuts.{front_within, within_comes_first}
use Rattle.yp_tree.proofs.tree.Tree.rows_within.Goals as goal

pub loop-row-init : goal.loop-row-init
loop-row-init g c = record {
  rows =
      ap (λ rows. rows ++ rows_of (front_within c.args.under.now c.range-rows.result)) c.in_ok-found.ensures.items
      ∙ ap (λ es. rows_of (front_within c.args.under.now es)) (c.range-rows.ensures.between tt)
      ∙ within_comes_first c.args.under.now c.self.inside.kept.entries c.self.invariant
      ∙ ap (rows_within c.args.under.now) c.self.view_is;
  visits = omega (arith, ap length c.in_ok-found.ensures.items);
}
