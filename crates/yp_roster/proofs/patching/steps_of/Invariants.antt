use Rattle.std.proofs.Common.{drop, take, length}
use Rattle.yp_journal.specs.History.{JournalState}
use Rattle.yp_slot.specs.Classes.{AreClasses}
use Rattle.yp_roster.specs.Passed.{AreStepsOf}
use Rattle.yp_slot.specs.Steps.{IsEnteredByPatch}
use Rattle.yp_roster.proofs.patching.steps_of.Given as goal

-- the steps so far are those of the classes so far
abbrev pub invariant-loop-class : goal.invariant-loop-class
invariant-loop-class g l = record {
  left : AreClasses l.entered.present.schema.now (length l.entered.present.state.now.receivers) (drop l.class-index l.classes);
  steps : (before : JournalState) → IsEnteredByPatch l.entered before → AreStepsOf l.entered.present.schema.now before l.entered.present.state.now (take l.class-index l.classes) l.those.items;
}
