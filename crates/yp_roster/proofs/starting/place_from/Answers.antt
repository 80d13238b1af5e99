use Rattle.std.proofs.Common.{sym, ◌∙◌}
use Rattle.std.specs.Prelude.{nat_le}
use Rattle.yp_slot.specs.declared.slot.Slot.{Slot}
use Rattle.yp_roster.proofs.Putting.{no_place, some_place}
use Rattle.yp_roster.proofs.starting.place_from.Goals as goal

pub returns-in-Some-clause-place : goal.returns-in-Some-clause-place
returns-in-Some-clause-place c = some_place (λ (slot : Slot). nat_le c.args.id slot.feed.sub) c.args.slots.now c.in-Some.place (sym c.first_from.ensures ∙ c.in-Some.is)

pub returns-in-None-clause-place : goal.returns-in-None-clause-place
returns-in-None-clause-place c = no_place (λ (slot : Slot). nat_le c.args.id slot.feed.sub) c.args.slots.now (sym c.first_from.ensures ∙ c.in-None.is)
