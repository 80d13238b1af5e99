use Rattle.std.proofs.Common.{sym, ap, ◌∙◌, option_copied}
use Rattle.yp_select.proofs.Those.{own_put, none_added}
use Rattle.yp_select.proofs.reached.add_own.Goals as goal

pub returns-in_ok-put-clause-those : goal.returns-in_ok-put-clause-those
returns-in_ok-put-clause-those g c = λ test those.
    own_put test c.args.path.now (record { path = c.in_ok-path.path; value = c.in_ok-value.value }) c.in-Some.value.now c.args.tree.now c.args.rows.now c.put.new.self c.in_ok-put.ensures.rows c.in_ok-path.ensures c.in_ok-value.ensures
    (sym (ap option_copied c.in-Some.is) ∙ c.get.ensures.found) those

pub returns-in_default-clause-those : goal.returns-in_default-clause-those
returns-in_default-clause-those g c = λ test those.
    none_added test c.args.path.now c.args.tree.now c.args.rows.now (sym c.get.ensures.found ∙ ap option_copied c.in_default.is) those
