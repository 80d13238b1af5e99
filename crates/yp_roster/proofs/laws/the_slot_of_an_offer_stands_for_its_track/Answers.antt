use Rattle.std.proofs.Common.{◌∷◌, ◌++◌, arith, length-append}
use Rattle.yp_roster.proofs.Placing.{as_many_slots, slot_there}
use Rattle.yp_roster.proofs.laws.the_slot_of_an_offer_stands_for_its_track.Goals as goal

pub returns-clause-place : goal.returns-clause-place
returns-clause-place c = λ nodes state mine past answers offer slots found.
    let many = as_many_slots nodes state slots (found.before ++ found.track ∷ found.after) found.kept in
    omega (arith, many, found.place, length-append found.before (found.track ∷ found.after))

pub returns-clause-slot : goal.returns-clause-slot
returns-clause-slot c = λ nodes state mine past answers offer slots found slot is. slot_there nodes state found.before offer.place slots found.track found.after slot found.place found.kept is
