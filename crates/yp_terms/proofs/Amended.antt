-- Amended triggers.
use Rattle.std.proofs.Common.{◌≡◌, ℕ, Option, Some, None, refl}
use Rattle.yp_base.specs.declared.notice.Trigger.{Trigger}
use Rattle.yp_base.specs.declared.notice.Trigger.TheVariants.{Periodic, OnChange}
use Rattle.yp_terms.specs.Amends.{amended_trigger}
use Rattle.yp_terms.specs.Terms.{has_period}

-- an amended trigger stays of its kind
pub kind_stays : (now : ℕ) (given : Option Trigger) (kept : Trigger) → has_period (amended_trigger now given kept) ≡ has_period kept
kind_stays now None kept = refl
kind_stays now (Some (Periodic period anchored)) (Periodic before had) = refl
kind_stays now (Some (Periodic period anchored)) (OnChange dampening sync excluded) = refl
kind_stays now (Some (OnChange dampening sync excluded)) (Periodic period anchored) = refl
kind_stays now (Some (OnChange dampening sync excluded)) (OnChange before had kinds) = refl
