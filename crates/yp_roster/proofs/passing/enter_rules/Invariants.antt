use Rattle.std.proofs.Common.{◌≡◌, List, length}
use Rattle.yp_journal.specs.History.{JournalState}
use Rattle.yp_attempt.specs.Tracks.{Track}
use Rattle.yp_roster.specs.Ordered.{AreClassedTo, AreSlotsOf}
use Rattle.yp_roster.specs.Passed.{AreEnteredTo}
use Rattle.yp_slot.specs.Steps.{IsEnteredByRules}
use Rattle.yp_roster.proofs.passing.enter_rules.Given as goal

-- the slots before the place went on, and have their classes
abbrev pub invariant-loop-place : goal.invariant-loop-place
invariant-loop-place l = record {
  count : length l.slots.items ≡ l.place-end;
  entered : (before : JournalState) (tracks : List Track) → IsEnteredByRules l.entered before → AreSlotsOf l.entered.present.schema.now before l.fn.slots.items tracks → AreEnteredTo l.entered before l.place l.slots.items tracks;
  classed : AreClassedTo l.entered.present.schema.now l.entered.present.state.now l.classes.items l.place l.slots.items;
}
