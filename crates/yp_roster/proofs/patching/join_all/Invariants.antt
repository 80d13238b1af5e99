use Rattle.std.proofs.Common.{◌≡◌, List, length, map}
use Rattle.yp_journal.specs.History.{JournalState}
use Rattle.yp_attempt.specs.Tracks.{Track}
use Rattle.yp_slot.specs.declared.classes.Class.{Class}
use Rattle.yp_roster.specs.Ordered.{HaveClasses, AreSlotsOf}
use Rattle.yp_slot.specs.Classes.{member_of}
use Rattle.yp_roster.specs.Passed.{AreEnteredTo, AreStepsOf}
use Rattle.yp_slot.specs.Steps.{IsEnteredByPatch}
use Rattle.yp_roster.proofs.patching.join_all.Given as goal

-- the slots before the place went on, and all are the same as members
abbrev pub invariant-loop-place : goal.invariant-loop-place
invariant-loop-place l = record {
  count : length l.slots.items ≡ l.place-end;
  members : map member_of l.slots.items ≡ map member_of l.fn.slots.items;
  entered : (before : JournalState) (classes : List Class) (tracks : List Track) → IsEnteredByPatch l.entered before → AreStepsOf l.entered.present.schema.now before l.entered.present.state.now classes l.steps → HaveClasses before classes l.fn.slots.items
      → AreSlotsOf l.entered.present.schema.now before l.fn.slots.items tracks → AreEnteredTo l.entered before l.place l.slots.items tracks;
}
