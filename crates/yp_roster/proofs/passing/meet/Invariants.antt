use Rattle.std.proofs.Common.{◌≡◌, List, length, true}
use Rattle.std.specs.List.{AllByRecursion}
use Rattle.yp_journal.specs.History.{JournalState}
use Rattle.yp_attempt.specs.Moments.{is_kept_by}
use Rattle.yp_attempt.specs.Tracks.{Track}
use Rattle.yp_slot.specs.Steps.{LeavesSelections, act_said}
use Rattle.yp_roster.specs.Ordered.{AreSlotsOf}
use Rattle.yp_roster.specs.Passed.{AreEnteredTo}
use Rattle.yp_roster.proofs.passing.meet.Given as goal

-- the slots before the place went on
abbrev pub invariant-loop-place : goal.invariant-loop-place
invariant-loop-place l = record {
  count : length l.slots.items ≡ l.place-end;
  entered : (before : JournalState) (tracks : List Track) → LeavesSelections l.entered before → AllByRecursion (λ track. is_kept_by (act_said l.act) track ≡ true) tracks
      → AreSlotsOf l.entered.present.schema.now before l.fn.slots.items tracks → AreEnteredTo l.entered before l.place l.slots.items tracks;
}
