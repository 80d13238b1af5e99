use Rattle.std.proofs.Common.{sym, ap, ◌∙◌}
use Rattle.std.specs.Ordering.{is_lt}
use Rattle.yp_tree.specs.Risen.{is_past}
use Rattle.yp_tree.proofs.Appending.{past_last}
use Rattle.yp_tree.proofs.rising.is_past.Goals as goal

pub returns-in-Some : goal.returns-in-Some
returns-in-Some c =
    c.is_lt.ensures ∙ ap is_lt c.cmp.ensures
    ∙ sym (ap (is_past c.args.path.now) c.in-Some.ensures.cases.0 ∙ past_last c.args.path.now c.in-Some.field-0-1.now c.in-Some.last.now)
