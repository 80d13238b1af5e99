use Rattle.std.proofs.Common.{ap, sym, not, length, ◌∙◌}
use Rattle.std.specs.Bool.{◌==◌}
use Rattle.yp_tree.specs.Scattered.{is_entry}
use Rattle.yp_tree.proofs.Merging.{entry_last}
use Rattle.yp_tree.proofs.scattered.is_entry.Goals as goal

pub returns-in-Some : goal.returns-in-Some
returns-in-Some c =
    ap not (c.is_empty.ensures ∙ ap (λ keys. length keys == 0) c.items-in-Some.ensures)
    ∙ sym (ap is_entry (sym c.items.ensures ∙ c.in-Some.ensures.cases.0) ∙ entry_last c.in-Some.field-0-1.now c.in-Some.last.now)
