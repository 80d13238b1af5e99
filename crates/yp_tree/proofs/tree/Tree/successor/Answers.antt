use Rattle.std.proofs.Common.{arith, ap, sym, ◌∙◌}
use Rattle.std.specs.Ordering.{is_eq}
use Rattle.yp_tree.proofs.Renewal.{succeeded}
use Rattle.yp_tree.proofs.tree.Tree.successor.Goals as goal

pub returns-then-ends_at : goal.returns-then-ends_at
returns-then-ends_at c =
    succeeded c.in_ok-row.row.now c.args.under.now c.args.rows.now c.in_ok-row.more.now c.args.self.now c.len-count.ensures.order
    (sym c.items.ensures ∙ c.in_ok-row.ensures.cases.0)
    (grind (arith, c.is_empty.ensures, c.if-is_empty.true))
    (ap is_eq (sym c.cmp.ensures) ∙ sym c.is_eq.ensures ∙ c.if-is_eq.true)
    (c.ends_at.ensures c.if-ends_at.true)
