-- The content of the two short journals.
use Rattle.std.proofs.Common.{refl}
use Rattle.yp_attempt.specs.Examples.{counting}
use Rattle.yp_mirror.specs.Stories.{Story, Leads}

pub counting_leads : (story : Story) → Leads counting story
counting_leads story = record { leads = λ sub from to kinds none first later begins goes_on. refl }
