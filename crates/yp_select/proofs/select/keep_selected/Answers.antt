use Rattle.std.proofs.Common.{◌≡◌, ◌+◌, ◌*◌, ◌≤◌, List, length, sym, ap, subst, ◌∙◌}
use Rattle.std.specs.Prelude.{OnOk}
use Rattle.std.specs.List.{AllByRecursion}
use Rattle.yp_base.specs.declared.row.Row.{Row}
use Rattle.yp_base.specs.RowLaws.{picked}
use Rattle.yp_schema.specs.Datastore.{IsRowOf}
use Rattle.yp_filter.specs.Filters.{filter_size, set_size}
use Rattle.yp_filter.specs.View.{filter_view, set_view}
use Rattle.yp_nacm.specs.Decision.{visible_rows}
use Rattle.yp_kept.specs.Selection.{kept}
use Rattle.yp_kept.specs.SelectionLaws.{selection_of_schema}
use Rattle.yp_kept.specs.KeptLaws.{all_kept}
use Rattle.yp_select.proofs.Selecting.{picked_few, fewer_visits}
use Rattle.yp_select.proofs.select.keep_selected.Goals as goal

pub keep_kept-requires-clause-schema : goal.keep_kept-requires-clause-schema
keep_kept-requires-clause-schema g c =
    let nodes = c.args.visible.now.schema.now in
    subst (λ (rows : List Row). AllByRecursion (IsRowOf nodes) rows) (sym c.in_ok-seen.ensures) (selection_of_schema nodes (g.R.Readable.may c.args.visible.now.readable.now nodes) c.args.rows c.requires.schema)

pub returns-in-All-clause-rows : goal.returns-in-All-clause-rows
returns-in-All-clause-rows g c =
    let nodes = c.args.visible.now.schema.now in
    let may = g.R.Readable.may c.args.visible.now.readable.now nodes in
    c.in_ok-seen.ensures
    ∙ sym (all_kept nodes (visible_rows may c.args.visible.now.tree.now) (visible_rows may c.args.rows))
    ∙ ap (λ filter. picked (kept nodes (filter_view filter) (visible_rows may c.args.visible.now.tree.now)) (visible_rows may c.args.rows)) (sym c.in-All.is)

pub returns-in-Set-clause-visits : goal.returns-in-Set-clause-visits
returns-in-Set-clause-visits g c =
    let may = g.R.Readable.may c.args.visible.now.readable.now c.args.visible.now.schema.now in
    let size : set_size (set_view c.in-Set.set) ≡ filter_size (filter_view c.args.filter.now) = ap (λ filter. filter_size (filter_view filter)) (sym c.in-Set.is) in
    fewer_visits c.keep_kept.result c.keep_kept.new.steps c.args.steps.now (length c.in_ok-seen.seen) (length c.args.rows) (filter_size (filter_view c.args.filter.now))
    (subst (λ (rows : List Row). length rows ≤ length c.args.rows) (sym c.in_ok-seen.ensures) (picked_few may c.args.rows))
    (subst (λ size. OnOk c.keep_kept.result (c.keep_kept.new.steps ≤ c.args.steps.now + length c.in_ok-seen.seen * size)) size c.keep_kept.ensures.visits)
