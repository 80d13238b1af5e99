use Rattle.std.proofs.Common.{[], sym, ap, ◌∙◌, cond}
use Rattle.yp_base.specs.Rows.{rows_within}
use Rattle.yp_nacm.specs.Decision.{visible_rows}
use Rattle.yp_kept.specs.KeptLaws.{selection_of_all}
use Rattle.yp_touch.proofs.changes.carried_below.Goals as goal

pub returns-in_ok-carried-clause-carried : goal.returns-in_ok-carried-clause-carried
returns-in_ok-carried-clause-carried g c =
    c.in_ok-carried.ensures.rows
    ∙ ap (rows_within c.args.row.now.path) (selection_of_all c.args.schema.now (g.R.Readable.may c.args.readable.now c.args.schema.now) c.args.rows.now)
    ∙ ap (λ b. cond b (rows_within c.args.row.now.path (visible_rows (g.R.Readable.may c.args.readable.now c.args.schema.now) c.args.rows.now)) []) (sym (sym c.is_some.ensures ∙ c.if-is_some.true))
