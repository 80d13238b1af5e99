use Rattle.std.proofs.Common.{◌∙◌}
use Rattle.std.proofs.lemmas.Result.{err_from_is_err_and}
use Rattle.std.specs.Prelude.{Err}
use Rattle.yp_edit.proofs.Applied.{patch_changes, patch_made}
use Rattle.yp_changes.specs.ChangeLaws.{none_differ}
use Rattle.yp_edit.proofs.Refusals.{names_one}
use Rattle.yp_edit.proofs.applying.apply.Goals as goal

pub commit-requires : goal.commit-requires
commit-requires g c = patch_changes c.args.schema.now c.args.tree.now c.args.patch.now c.in_ok-changed.changed c.len-rows.ensures.order c.in_ok-changed.ensures

pub returns-clause-applied : goal.returns-clause-applied
returns-clause-applied g c = patch_made c.args.schema.now c.args.tree.now c.commit.new.tree c.args.patch.now c.in_ok-changed.changed c.len-rows.ensures.order c.in_ok-changed.ensures c.in_ok-commit.ensures.made

pub returns-clause-changed : goal.returns-clause-changed
returns-clause-changed g c = c.in_ok-commit.ensures.made.changed

pub returns-clause-quiet : goal.returns-clause-quiet
returns-clause-quiet g c = λ same. c.in_ok-commit.ensures.made.changed ∙ none_differ c.args.tree.now c.commit.new.tree same

pub returns-in_err-changed-clause-number : goal.returns-in_err-changed-clause-number
returns-in_err-changed-clause-number g c =
    let p = err_from_is_err_and c.from_residual.result c.from_residual.ensures.1 in
    rw (p.1, p.2) (names_one c.args.schema.now c.args.tree.now c.args.patch.now (Err c.in_err-changed.field-0.0) c.in_err-changed.ensures)

pub returns-clause-datastore : goal.returns-clause-datastore
returns-clause-datastore g c datastore = c.a_patch_keeps_a_datastore.ensures c.args.schema.now c.args.tree.now c.commit.new.tree c.args.patch.now datastore (patch_made c.args.schema.now c.args.tree.now c.commit.new.tree c.args.patch.now c.in_ok-changed.changed c.len-rows.ensures.order c.in_ok-changed.ensures c.in_ok-commit.ensures.made)
