use Rattle.std.proofs.Common.{arith, ◌≡◌, ap, ◌∙◌, List, length, slice_get}
use Rattle.std.specs.Prelude.{option_copied}
use Rattle.yp_base.specs.declared.row.Row.{Row}
use Rattle.yp_tree.proofs.Renewal.{found_at, given_last}
use Rattle.yp_tree.proofs.tree.Tree.give_all_back.Goals as goal

pub loop-old-preserved : goal.loop-old-preserved
loop-old-preserved c =
    let place : c.len.result ≡ length c.pop.new.self.items = first_of (omega (arith, c.len.ensures, c.pop.new.self.ok), grind (arith, c.len.ensures, c.pop.new.self.ok)) in
    given_last c.args.rows.now c.loop-old.olds.items c.pop.new.self.items c.in-Some.old (option_copied c.get.result) c.len.result c.loop-old.self c.give_back.new.self _
    c.in-Some.ensures.items place (found_at c.get.result c.items.result.now c.len.result c.get.ensures.lookup.1 c.get.ensures.lookup.3 ∙ ap (λ (rows : List Row). slice_get rows c.len.result) c.items.ensures) c.give_back.ensures c.loop-old.invariant
