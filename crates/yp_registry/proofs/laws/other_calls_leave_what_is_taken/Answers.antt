use Rattle.std.proofs.Common.{◌≡◌, refl}
use Rattle.yp_terms.specs.Refusals.{first_refusal}
use Rattle.yp_registry.specs.Registry.{Subscriptions}
use Rattle.yp_terms.specs.Amends.{amended_terms}
use Rattle.yp_registry.specs.Amending.{modify_reasons, reconfigure_reasons, with_change}
use Rattle.yp_registry.specs.Calls.{delete_reasons, kill_reasons, unconfigure_reasons, with_end}
use Rattle.yp_registry.proofs.Establishing.{taken_stay}
use Rattle.yp_registry.proofs.Further.{left_is}
use Rattle.yp_registry.proofs.laws.other_calls_leave_what_is_taken.Goals as goal

pub returns-clause-established : goal.returns-clause-established
returns-clause-established c = taken_stay

pub returns-clause-modified : goal.returns-clause-modified
returns-clause-modified c = λ nodes policy registry by id amend now. left_is (λ (r : Subscriptions). r.taken ≡ registry.taken) (first_refusal (modify_reasons nodes policy registry by id amend)) registry (with_change id (amended_terms nodes amend now) registry) refl (λ free. refl)

pub returns-clause-reconfigured : goal.returns-clause-reconfigured
returns-clause-reconfigured c = λ nodes registry id amend now. left_is (λ (r : Subscriptions). r.taken ≡ registry.taken) (first_refusal (reconfigure_reasons nodes registry id amend)) registry (with_change id (amended_terms nodes amend now) registry) refl (λ free. refl)

pub returns-clause-deleted : goal.returns-clause-deleted
returns-clause-deleted c = λ policy registry by id. left_is (λ (r : Subscriptions). r.taken ≡ registry.taken) (first_refusal (delete_reasons policy registry by id)) registry (with_end id registry) refl (λ free. refl)

pub returns-clause-killed : goal.returns-clause-killed
returns-clause-killed c = λ policy registry by id. left_is (λ (r : Subscriptions). r.taken ≡ registry.taken) (first_refusal (kill_reasons policy registry by id)) registry (with_end id registry) refl (λ free. refl)

pub returns-clause-unconfigured : goal.returns-clause-unconfigured
returns-clause-unconfigured c = λ registry id. left_is (λ (r : Subscriptions). r.taken ≡ registry.taken) (first_refusal (unconfigure_reasons registry id)) registry (with_end id registry) refl (λ free. refl)
