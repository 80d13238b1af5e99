use Rattle.std.proofs.Common.{◌≡◌, List, length, map}
use Rattle.yp_attempt.specs.Tracks.{Track}
use Rattle.yp_slot.specs.Classes.{member_of}
use Rattle.yp_slot.specs.Records.{AreTold}
use Rattle.yp_roster.specs.Rosters.{AreQuietTo, IsLookedTo}
use Rattle.yp_roster.specs.Ordered.{AreSlotsOf}
use Rattle.yp_roster.proofs.roster.Roster.next_offer.Given as goal

-- the slots before the place were looked at, and offer nothing; all are the same as members, and each record that is kept is that of its class
abbrev pub invariant-loop-place : goal.invariant-loop-place
invariant-loop-place g l = record {
  count : length l.self.slots.items ≡ l.place-end;
  looked : (tracks : List Track) → AreSlotsOf l.present.schema.now l.present.state.now l.fn.self.slots.items tracks → IsLookedTo l.present.schema.now l.present.state.now tracks l.place l.self.slots.items;
  members : map member_of l.self.slots.items ≡ map member_of l.fn.self.slots.items;
  all : l.self.classes.all ≡ l.fn.self.classes.all;
  quiet : AreQuietTo l.present.state.now l.place l.self.slots.items;
  told : AreTold l.present.schema.now l.present.state.now l.self.classes.all.items l.self.classes.told.items;
}
