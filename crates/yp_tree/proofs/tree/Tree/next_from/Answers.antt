use Rattle.std.proofs.Common.{ap, sym, ◌∙◌}
use Rattle.std.specs.Ordering.{is_lt}
use Rattle.yp_tree.proofs.Nexts.{begins_at, begins_past}
use Rattle.yp_base.specs.PathLaws.{less_told}
use Rattle.yp_tree.proofs.tree.Tree.next_from.Goals as goal

pub first_at-requires : goal.first_at-requires
first_at-requires c = begins_at c.args.after.now c.args.under.now (less_told _ (ap is_lt (sym c.cmp.ensures) ∙ sym c.is_lt.ensures ∙ c.if-is_lt.true))

pub first_at-requires-else-is_lt : goal.first_at-requires-else-is_lt
first_at-requires-else-is_lt c = begins_past c.args.after.now c.args.under.now (ap is_lt (sym c.cmp.ensures) ∙ sym c.is_lt.ensures ∙ c.if-is_lt.false)
