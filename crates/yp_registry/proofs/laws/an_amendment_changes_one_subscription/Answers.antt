use Rattle.std.proofs.Common.{refl}
use Rattle.yp_terms.specs.Amends.{amended_terms}
use Rattle.yp_registry.proofs.Finding.{found_changed, others_changed}
use Rattle.yp_registry.proofs.laws.an_amendment_changes_one_subscription.Goals as goal

pub returns-clause-found : goal.returns-clause-found
returns-clause-found c = λ nodes amend now id live. found_changed (amended_terms nodes amend now) (λ terms. refl) id live

pub returns-clause-others : goal.returns-clause-others
returns-clause-others c = λ nodes amend now id other live differ. others_changed (amended_terms nodes amend now) (λ terms. refl) id other differ live
