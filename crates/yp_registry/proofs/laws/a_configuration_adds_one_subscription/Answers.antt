use Rattle.yp_registry.proofs.Finding.{found_in_order, others_in_order}
use Rattle.yp_registry.proofs.laws.a_configuration_adds_one_subscription.Goals as goal

pub returns-clause-found : goal.returns-clause-found
returns-clause-found c = found_in_order

pub returns-clause-others : goal.returns-clause-others
returns-clause-others c = others_in_order
