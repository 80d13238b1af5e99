use Rattle.std.proofs.Common.{List, ap, ◌∙◌, subst}
use Rattle.std.specs.List.{filter_map}
use Rattle.yp_base.specs.declared.row.Row.{Row}
use Rattle.yp_changes.specs.Commits.{KeepsOthers, given_row, set_rows, without_missing}
use Rattle.yp_changes.proofs.Committing.{all_made, taken_back}
use Rattle.yp_changes.specs.CommitLaws.{new_value}
use Rattle.yp_changes.proofs.commit.change_rows.Goals as goal

pub returns-in-Err-clause-unchanged : goal.returns-in-Err-clause-unchanged
returns-in-Err-clause-unchanged c =
    c.take_back.ensures
    ∙ taken_back c.args.changed.now c.args.tree.now c.requires.0 c.put_all.new.tree c.len-rows.ensures.order c.len-left.ensures.order c.requires.1
    (subst (λ (rows : List Row). KeepsOthers rows c.args.tree.now c.put_all.new.tree) c.in_ok-added.ensures c.in-Err.ensures.others)

pub returns-clause-made : goal.returns-clause-made
returns-clause-made c =
    all_made c.args.changed.now c.args.tree.now c.requires.0 c.in_ok-added.added c.take_out.new.tree c.len-rows.ensures.order c.requires.1 c.in_ok-added.ensures
    (c.take_out.ensures ∙ ap (without_missing new_value c.args.changed.now) (c.give.ensures ∙ ap (set_rows (filter_map given_row c.args.changed.now)) c.in_default.ensures.rows))
