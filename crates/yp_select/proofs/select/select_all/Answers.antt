use Rattle.std.proofs.Common.{length, ◌∙◌}
use Rattle.yp_filter.specs.Filters.{filter_size}
use Rattle.yp_filter.specs.View.{filter_view}
use Rattle.yp_nacm.specs.Decision.{visible_rows}
use Rattle.yp_select.proofs.Selecting.{all_visits}
use Rattle.yp_select.proofs.select.select_all.Goals as goal

pub returns-clause-rows : goal.returns-clause-rows
returns-clause-rows g c =
    let may = g.R.Readable.may c.args.readable.now c.args.schema.now in
    c.in_ok-selected.ensures.rows ∙ c.in_ok-rows.ensures.enough may (visible_rows may c.args.tree.now)

pub returns-clause-visits : goal.returns-clause-visits
returns-clause-visits g c =
    all_visits c.keep_selected.new.steps c.rows_for.new.steps c.args.steps.now (length c.in_ok-rows.rows) (length c.args.tree.now) (filter_size (filter_view c.args.filter.now))
    c.in_ok-rows.ensures.few c.in_ok-rows.ensures.visits c.in_ok-selected.ensures.visits
