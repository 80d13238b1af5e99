use Rattle.yp_terms.specs.Refusals.{first_refusal}
use Rattle.yp_registry.specs.Amending.{modify_reasons, reconfigure_reasons}
use Rattle.yp_registry.specs.Calls.{delete_reasons, kill_reasons, unconfigure_reasons}
use Rattle.yp_registry.proofs.Further.{change_keeps_rising, configured_keeps_rising, end_keeps_rising}
use Rattle.yp_registry.proofs.laws.ids_rise_after_each_call.Goals as goal

pub returns-clause-modified : goal.returns-clause-modified
returns-clause-modified c = λ nodes policy registry by id amend now. change_keeps_rising (first_refusal (modify_reasons nodes policy registry by id amend)) registry id nodes amend now

pub returns-clause-reconfigured : goal.returns-clause-reconfigured
returns-clause-reconfigured c = λ nodes registry id amend now. change_keeps_rising (first_refusal (reconfigure_reasons nodes registry id amend)) registry id nodes amend now

pub returns-clause-deleted : goal.returns-clause-deleted
returns-clause-deleted c = λ policy registry by id. end_keeps_rising (first_refusal (delete_reasons policy registry by id)) registry id

pub returns-clause-killed : goal.returns-clause-killed
returns-clause-killed c = λ policy registry by id. end_keeps_rising (first_refusal (kill_reasons policy registry by id)) registry id

pub returns-clause-unconfigured : goal.returns-clause-unconfigured
returns-clause-unconfigured c = λ registry id. end_keeps_rising (first_refusal (unconfigure_reasons registry id)) registry id

pub returns-clause-configured : goal.returns-clause-configured
returns-clause-configured c = configured_keeps_rising
