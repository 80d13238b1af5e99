use Rattle.std.proofs.Common.{◌∙◌, Some, None, sym, ap, cond}
use Rattle.yp_base.specs.Rows.{rows_within}
use Rattle.yp_filter.specs.View.{filter_view}
use Rattle.yp_kept.specs.Selection.{selection}
use Rattle.yp_touch.proofs.Rows.{found_among}
use Rattle.yp_touch.proofs.recording.rows_at_once.Goals as goal

pub returns-then-has_row-clause-rows : goal.returns-then-has_row-clause-rows
returns-then-has_row-clause-rows g c =
    let source = c.args.source.now in
    let path = c.args.path.now in
    let new = selection source.schema.now (filter_view source.filter.now) (g.R.Readable.may source.readable.now source.schema.now) source.tree.now in
    let told = found_among path new c.items.result.now c.has_row.result (c.items.ensures ∙ c.in_ok-rows.ensures.rows) c.has_row.ensures in
    ap Some c.in_ok-rows.ensures.rows ∙ sym (ap (λ b. cond b (Some (rows_within path new)) None) (told ∙ c.if-has_row.true))

pub returns-else-has_row-clause-rows : goal.returns-else-has_row-clause-rows
returns-else-has_row-clause-rows g c =
    let source = c.args.source.now in
    let path = c.args.path.now in
    let new = selection source.schema.now (filter_view source.filter.now) (g.R.Readable.may source.readable.now source.schema.now) source.tree.now in
    let told = found_among path new c.items.result.now c.has_row.result (c.items.ensures ∙ c.in_ok-rows.ensures.rows) c.has_row.ensures in
    sym (ap (λ b. cond b (Some (rows_within path new)) None) (told ∙ c.if-has_row.false))
