use Rattle.std.proofs.lemmas.Bool.Decides.{Decides-at}
use Rattle.yp_nacm.specs.SameLaws.{own_rules_decide}
use Rattle.yp_nacm.proofs.compile.same_rules.Goals as goal

pub returns-clause-one : goal.returns-clause-one
returns-clause-one c = Decides-at c.eq.result _ c.eq.ensures (own_rules_decide c.args.one.now c.args.other.now)
