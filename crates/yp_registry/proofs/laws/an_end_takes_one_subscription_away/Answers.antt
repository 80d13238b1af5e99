use Rattle.yp_registry.proofs.Finding.{found_without, others_without}
use Rattle.yp_registry.proofs.laws.an_end_takes_one_subscription_away.Goals as goal

pub returns-clause-found : goal.returns-clause-found
returns-clause-found c = found_without

pub returns-clause-others : goal.returns-clause-others
returns-clause-others c = λ id other live differ. others_without id other differ live
