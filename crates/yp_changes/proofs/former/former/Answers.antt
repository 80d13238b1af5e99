use Rattle.std.proofs.Common.{sym, ap, ◌∙◌, map}
use Rattle.yp_changes.specs.Changes.{turned}
use Rattle.yp_changes.specs.CommitLaws.{same_after}
use Rattle.yp_changes.proofs.Turning.{changes_turned}
use Rattle.yp_changes.proofs.former.former.Goals as goal

pub renewed-requires : goal.renewed-requires
renewed-requires g c = (
  c.requires.0,
  record {
    in_order = c.requires.1;
    changed = c.in_ok-others.ensures ∙ ap (map turned) (c.items.ensures ∙ c.requires.2) ∙ changes_turned c.requires.0 c.args.tree.now c.requires.1 c.len-rows.ensures.order;
  },
)

pub returns : goal.returns
returns g c = λ before order differ.
    let made = c.in_ok-found.ensures in
    same_after c.args.tree.now c.in_ok-found.found before c.len-rows.ensures.order made.in_order order
    (sym made.changed ∙ c.in_ok-others.ensures ∙ ap (map turned) (c.items.ensures ∙ differ) ∙ changes_turned before c.args.tree.now order c.len-rows.ensures.order)
