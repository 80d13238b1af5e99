use Rattle.std.proofs.Common.{[], ◌∷◌, sym, ap, ◌∙◌}
use Rattle.yp_base.specs.Rows.{put_row}
use Rattle.yp_tree.proofs.Gathered.{puts_joined}
use Rattle.yp_tree.proofs.rising.put_each.Goals as goal

pub loop-row-preserved : goal.loop-row-preserved
loop-row-preserved c =
    c.in_ok-put.ensures.rows ∙ ap (put_row c.in-Some.row) c.loop-row.invariant ∙ sym (puts_joined c.loop-row.yielded (c.in-Some.row ∷ []) c.args.tree.now)
