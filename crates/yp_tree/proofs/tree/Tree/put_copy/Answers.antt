use Rattle.std.proofs.Common.{ap, ◌∙◌, List, Some}
use Rattle.yp_base.specs.declared.row.Row.{Row}
use Rattle.yp_base.specs.Rows.{value_at, put_row}
use Rattle.yp_tree.specs.Listed.{given_back}
use Rattle.yp_tree.proofs.Renewal.{put_and_back}
use Rattle.yp_tree.proofs.tree.Tree.put_copy.Goals as goal

pub returns-clause-back : goal.returns-clause-back
returns-clause-back c =
    let row : Row = c.args.row.now in
    let rows : List Row = c.args.self.now in
    ap (given_back (Some row) (value_at row.path rows)) (c.in_ok-old.ensures.rows ∙ ap (λ (copy : Row). put_row copy rows) c.in_ok-copy.ensures)
    ∙ put_and_back row rows c.len-count.ensures.order
