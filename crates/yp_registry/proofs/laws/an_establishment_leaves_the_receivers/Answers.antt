use Rattle.yp_registry.proofs.Establishing.{users_stay, names_stay}
use Rattle.yp_registry.proofs.laws.an_establishment_leaves_the_receivers.Goals as goal

pub returns-clause-users : goal.returns-clause-users
returns-clause-users c = users_stay

pub returns-clause-names : goal.returns-clause-names
returns-clause-names c = names_stay
