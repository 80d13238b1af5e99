use Rattle.std.proofs.Common.{sym, subst}
use Rattle.push_program.specs.declared.job.Job.{Job}
use Rattle.push_program.specs.Making.{Makes}
use Rattle.push_program.proofs.texts.text_of.Goals as goal

pub returns-in-Trial : goal.returns-in-Trial
returns-in-Trial c = subst (λ (job : Job). Makes job c.args.bytes.now c.trial_text.result) (sym c.in-Trial.is) (c.trial_text.ensures c.args.bytes.now)
