use Rattle.std.proofs.Common.{length, arith, ap, subst, sym, ◌∙◌}
use Rattle.yp_tree.specs.Scattered.{AreOrdered}
use Rattle.yp_tree.proofs.Merging.{ordered_is}
use Rattle.yp_tree.proofs.scattered.put_together.Goals as goal

pub returns-then-are_in_order : goal.returns-then-are_in_order
returns-then-are_in_order c =
    let rows = c.args.rows.items in
    let places = c.as_slice-then-are_in_order.result.now in
    let there = c.are_in_order.ensures c.if-are_in_order.true in
    let are : AreOrdered rows places =
    subst (AreOrdered rows) (c.as_slice-then-len-2.ensures.value ∙ sym c.as_slice-then-are_in_order.ensures.value)
    (subst (λ some. AreOrdered some c.as_slice-then-len-2.result.now) c.as_slice-then-len.ensures.value there) in
    c.from_vec.ensures ∙ c.in_ok-taken.ensures ∙ ordered_is rows places are (omega (arith, c.if-len.true, c.len.ensures, c.len-2.ensures, ap length c.as_slice-then-are_in_order.ensures.value))
