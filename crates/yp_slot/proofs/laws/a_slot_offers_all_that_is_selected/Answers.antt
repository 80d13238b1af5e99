use Rattle.yp_slot.proofs.Ended.{periodic_lives, sync_lives}
use Rattle.yp_slot.proofs.Standing.{selects}
use Rattle.yp_slot.proofs.laws.a_slot_offers_all_that_is_selected.Goals as goal

pub returns-clause-sync : goal.returns-clause-sync
returns-clause-sync c = λ nodes state slot track stamp stands offers. selects nodes state slot track stands (sync_lives nodes state slot track stands stamp offers)

pub returns-clause-periodic : goal.returns-clause-periodic
returns-clause-periodic c = λ nodes state slot track stamp stands offers. selects nodes state slot track stands (periodic_lives nodes state slot track stands stamp offers)
