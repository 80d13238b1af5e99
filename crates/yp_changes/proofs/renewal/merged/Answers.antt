use Rattle.std.proofs.Common.{◌++◌, List, sym, ap, ◌∙◌}
use Rattle.yp_base.specs.declared.row.Row.{Row}
use Rattle.yp_changes.specs.Renewals.{made}
use Rattle.yp_changes.proofs.Renewals.{made_order, one_added}
use Rattle.yp_changes.proofs.renewal.merged.Goals as goal

pub loop-next-init : goal.loop-next-init
loop-next-init c = record {
  rows = c.requires.rows;
  changes = c.requires.changes;
  order = made_order c.args.changes.now c.args.rows.now c.requires.rows;
  so_far = ap (λ (rows : List Row). rows ++ made c.args.changes.now c.args.rows.now) c.new-news.ensures;
}

pub loop-next-preserved : goal.loop-next-preserved
loop-next-preserved c =
    let begins = c.in-Some.ensures.some in
    let invariant = c.loop-next.invariant in
    record {
      rows = begins.rows_order;
      changes = begins.changes_order;
      order = invariant.order;
      so_far = one_added c.loop-next.news c.put_copy.new.news (made c.in-Some.next.changes.now c.in-Some.next.rows.now) (made c.args.changes.now c.args.rows.now) _ c.in_ok-put_copy.ensures (ap (λ (rows : List Row). c.loop-next.news ++ rows) (sym begins.all_made) ∙ invariant.so_far) invariant.order;
    }
