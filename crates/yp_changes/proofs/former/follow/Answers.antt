use Rattle.std.proofs.Common.{sym, ◌∙◌}
use Rattle.yp_changes.specs.CommitLaws.{same_after}
use Rattle.yp_changes.proofs.former.follow.Goals as goal

pub commit-requires : goal.commit-requires
commit-requires g c = (c.requires.0, record { in_order = c.requires.1; changed = c.requires.2 })

pub returns-clause-rows : goal.returns-clause-rows
returns-clause-rows g c = λ after order differ.
    let made = c.in_ok-commit.ensures.made in
    same_after c.args.tree.now c.commit.new.tree after c.len-rows.ensures.order made.in_order order (sym made.changed ∙ differ)
