use Rattle.yp_terms.specs.Refusals.{first_refusal}
use Rattle.yp_registry.specs.Calls.{delete_reasons, kill_reasons, unconfigure_reasons}
use Rattle.yp_registry.proofs.Further.{end_keeps}
use Rattle.yp_registry.proofs.laws.an_end_keeps_a_registry.Goals as goal

pub returns-clause-deleted : goal.returns-clause-deleted
returns-clause-deleted c = λ nodes policy registry by id. end_keeps nodes (first_refusal (delete_reasons policy registry by id)) registry id

pub returns-clause-killed : goal.returns-clause-killed
returns-clause-killed c = λ nodes policy registry by id. end_keeps nodes (first_refusal (kill_reasons policy registry by id)) registry id

pub returns-clause-unconfigured : goal.returns-clause-unconfigured
returns-clause-unconfigured c = λ nodes registry id. end_keeps nodes (first_refusal (unconfigure_reasons registry id)) registry id
