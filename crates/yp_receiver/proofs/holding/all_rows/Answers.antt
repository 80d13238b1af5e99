use Rattle.std.proofs.Common.{ap, ◌∙◌}
use Rattle.yp_base.specs.Rows.{rows_within}
use Rattle.yp_base.specs.RowLaws.{all_within}
use Rattle.yp_receiver.proofs.holding.all_rows.Goals as goal

pub returns : goal.returns
returns g c = c.in_ok-rows.ensures.rows ∙ ap (λ top. rows_within top c.args.tree.now) c.in_ok-top.ensures ∙ all_within c.args.tree.now
