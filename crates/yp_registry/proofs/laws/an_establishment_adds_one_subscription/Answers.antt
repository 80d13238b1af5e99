use Rattle.yp_registry.proofs.Rising.{found, others_stay}
use Rattle.yp_registry.proofs.laws.an_establishment_adds_one_subscription.Goals as goal

pub returns-clause-found : goal.returns-clause-found
returns-clause-found c = found

pub returns-clause-others : goal.returns-clause-others
returns-clause-others c = others_stay
