use Rattle.std.proofs.Common.{◌≡◌, [], List, ap, sym, ◌∙◌}
use Rattle.serde_json.specs.Written.{compact_text}
use Rattle.yp_base.specs.declared.row.Row.{Row}
use Rattle.yp_data_json.specs.Writing.{rows_json}
use Rattle.yp_filter.specs.View.{filter_view}
use Rattle.yp_nacm.specs.Decision.{is_readable}
use Rattle.yp_kept.specs.Selection.{selection}
use Rattle.yp_worker.specs.Contents.{selected}
use Rattle.yp_worker.proofs.contents.select.Goals as goal

pub returns : goal.returns
returns g c =
    let present = c.args.present.now in
    let nodes = present.schema.now in
    let state = present.state.now in
    let asked = filter_view c.args.filter.now in
    let rows : c.in_ok-rows.rows ≡ selected nodes state asked c.args.first =
    c.in_ok-rows.ensures.rows ∙ (λ i. selection nodes asked (λ path. is_readable nodes (c.rules_of-rules.ensures i) path) (c.tree-tree.ensures.rows i)) in
    record {
      rows = c.in_ok-share.ensures ∙ rows;
      text = c.in_ok-text.ensures ∙ ap (λ (those : List Row). compact_text (rows_json nodes [] those)) (sym c.in_ok-share.ensures);
    }
