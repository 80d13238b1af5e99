use Rattle.std.proofs.Common.{sym, ap, subst, ◌∙◌}
use Rattle.std.proofs.lemmas.Result.{IfOk-weaker}
use Rattle.yp_base.specs.Rows.{rows_within, AreInOrder}
use Rattle.yp_base.specs.RowLaws.{all_within}
use Rattle.yp_changes.specs.Renewals.{made}
use Rattle.yp_changes.proofs.Renewals.{made_differ, differ_sorted}
use Rattle.yp_changes.proofs.renewal.renewed.Goals as goal

pub merged-requires-clause-rows : goal.merged-requires-clause-rows
merged-requires-clause-rows g c =
    subst AreInOrder (sym (c.items.ensures ∙ c.in_ok-rows.ensures.rows ∙ ap (λ path. rows_within path c.args.tree.now) c.in_ok-top.ensures ∙ all_within c.args.tree.now)) c.len-rows.ensures.order

pub returns : goal.returns
returns g c =
    let rows = c.items.ensures ∙ c.in_ok-rows.ensures.rows ∙ ap (λ path. rows_within path c.args.tree.now) c.in_ok-top.ensures ∙ all_within c.args.tree.now in
    IfOk-weaker c.merged.result _ _ (λ tree is. made_differ c.args.changed.now c.args.tree.now c.requires.0 tree c.len-rows.ensures.order c.requires.1 (is ∙ (λ i. made (c.items-2.ensures i) (rows i)))) c.merged.ensures

pub merged-requires-clause-changes : goal.merged-requires-clause-changes
merged-requires-clause-changes g c = rw c.items-2.ensures (differ_sorted c.args.changed.now c.args.tree.now c.requires.0 c.len-rows.ensures.order c.requires.1)
