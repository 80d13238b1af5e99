use Rattle.yp_registry.proofs.Further.{never_again, none_before, stays_taken, taken_then}
use Rattle.yp_registry.proofs.laws.an_id_is_configured_once.Goals as goal

pub returns-clause-taken : goal.returns-clause-taken
returns-clause-taken c = taken_then

pub returns-clause-stays : goal.returns-clause-stays
returns-clause-stays c = stays_taken

pub returns-clause-refused : goal.returns-clause-refused
returns-clause-refused c = never_again

pub returns-clause-fresh : goal.returns-clause-fresh
returns-clause-fresh c = none_before
