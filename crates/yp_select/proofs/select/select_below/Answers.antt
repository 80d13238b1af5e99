use Rattle.std.proofs.Common.{List, sym, ap, subst, ◌∙◌}
use Rattle.std.specs.List.{AllByRecursion}
use Rattle.yp_base.specs.declared.row.Row.{Row}
use Rattle.yp_base.specs.Order.{is_within}
use Rattle.yp_base.specs.RowLaws.{picked}
use Rattle.yp_schema.specs.Datastore.{IsRowOf}
use Rattle.yp_filter.specs.View.{filter_view}
use Rattle.yp_nacm.specs.Decision.{visible_rows}
use Rattle.yp_kept.specs.Selection.{kept}
use Rattle.yp_kept.specs.SelectionLaws.{all_selected}
use Rattle.yp_kept.specs.KeptLaws.{kept_within}
use Rattle.yp_select.proofs.select.select_below.Goals as goal

pub keep_selected-requires-clause-schema : goal.keep_selected-requires-clause-schema
keep_selected-requires-clause-schema g c =
    subst (λ (rows : List Row). AllByRecursion (IsRowOf c.args.schema.now) rows) (sym c.in_ok-all.ensures.rows) (all_selected (is_within c.args.at.now) (IsRowOf c.args.schema.now) c.args.tree.now c.requires.schema)

pub returns-clause-rows : goal.returns-clause-rows
returns-clause-rows g c =
    let nodes = c.args.schema.now in
    let may = g.R.Readable.may c.args.readable.now nodes in
    c.in_ok-selected.ensures.rows
    ∙ ap (λ rows. picked (kept nodes (filter_view c.args.filter.now) (visible_rows may c.args.tree.now)) (visible_rows may rows)) c.in_ok-all.ensures.rows
    ∙ kept_within nodes (filter_view c.args.filter.now) may c.args.at.now c.args.tree.now
