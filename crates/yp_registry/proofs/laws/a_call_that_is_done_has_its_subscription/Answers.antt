use Rattle.yp_registry.proofs.Further.{modified_is, reconfigured_is, deleted_is, killed_is, resynced_is, unconfigured_is}
use Rattle.yp_registry.proofs.laws.a_call_that_is_done_has_its_subscription.Goals as goal

pub returns-clause-modified : goal.returns-clause-modified
returns-clause-modified c = modified_is

pub returns-clause-reconfigured : goal.returns-clause-reconfigured
returns-clause-reconfigured c = reconfigured_is

pub returns-clause-deleted : goal.returns-clause-deleted
returns-clause-deleted c = deleted_is

pub returns-clause-killed : goal.returns-clause-killed
returns-clause-killed c = killed_is

pub returns-clause-resynced : goal.returns-clause-resynced
returns-clause-resynced c = resynced_is

pub returns-clause-unconfigured : goal.returns-clause-unconfigured
returns-clause-unconfigured c = unconfigured_is
