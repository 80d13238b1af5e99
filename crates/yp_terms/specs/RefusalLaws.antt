-- What follows where a call is not refused.
use Rattle.std.proofs.Common.{◌≡◌, Bool, true, false, List, [], ◌∷◌, Option, Some, None, refl}
use Rattle.std.specs.Prelude.{Ok, if◌then◌else◌}
use Rattle.std.specs.List.{AllByRecursion}
use Rattle.yp_terms.specs.declared.refused.Refused.{Refused}
use Rattle.yp_terms.specs.Refusals.{Reason, first_refusal, or_refused}

-- what is given is not refused
pub not_refused : {X : Type 0} (refusal : Option Refused) (x y : X) → or_refused refusal x ≡ Ok y → (refusal ≡ None) × (x ≡ y)
not_refused None x y h = (refl, cc)
not_refused (Some refusal) x y h = cc

-- so it is where a call gives nothing
pub nothing_refused : (refusal : Option Refused) → or_refused refusal (tt {0}) ≡ Ok (tt {0}) → refusal ≡ None
nothing_refused refusal done = (not_refused refusal (tt {0}) (tt {0}) done).0

passed : (holds : Bool) (refusal : Refused) (rest : Option Refused) → (if holds then Some refusal else rest) ≡ None → (holds ≡ false) × (rest ≡ None)
passed true refusal rest h = cc
passed false refusal rest h = (refl, h)

-- where nothing is refused, no reason holds
pub none_holds : (reasons : List Reason) → first_refusal reasons ≡ None → AllByRecursion (λ (reason : Reason). reason.0 ≡ false) reasons
none_holds [] h = tt
none_holds (reason ∷ reasons) h = let rest = passed reason.0 reason.1 (first_refusal reasons) h in (rest.0, none_holds reasons rest.1)
