use Rattle.std.proofs.Common.{◌≡◌, List, length}
use Rattle.yp_attempt.specs.Tracks.{Track}
use Rattle.yp_roster.specs.Ordered.{AreClassedTo, AreSlotsOf}
use Rattle.yp_roster.proofs.passing.classify.Given as goal

-- the slots stand for what they stood for, and those before the place have their classes
abbrev pub invariant-loop-place : goal.invariant-loop-place
invariant-loop-place l = record {
  count : length l.slots.items ≡ l.place-end;
  slots : (tracks : List Track) → AreSlotsOf l.present.schema.now l.present.state.now l.fn.slots.items tracks → AreSlotsOf l.present.schema.now l.present.state.now l.slots.items tracks;
  classed : AreClassedTo l.present.schema.now l.present.state.now l.classes.items l.place l.slots.items;
}
