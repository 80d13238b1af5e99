use Rattle.yp_registry.proofs.Rising.{next_given, never_falls, fresh}
use Rattle.yp_registry.proofs.laws.an_id_is_given_once.Goals as goal

pub returns-clause-next : goal.returns-clause-next
returns-clause-next c = next_given

pub returns-clause-never_falls : goal.returns-clause-never_falls
returns-clause-never_falls c = never_falls

pub returns-clause-fresh : goal.returns-clause-fresh
returns-clause-fresh c = fresh
