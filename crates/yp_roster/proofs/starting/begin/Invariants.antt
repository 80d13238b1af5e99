use Rattle.std.proofs.Common.{◌≡◌, List, Some}
use Rattle.yp_registry.specs.Registry.{live_at}
use Rattle.yp_attempt.specs.Moments.{Moment}
use Rattle.yp_attempt.specs.Tracks.{Track}
use Rattle.yp_slot.specs.Classes.{KeepNumbers}
use Rattle.yp_roster.specs.Ordered.{AreClassesOf, AreSlotsOf}
use Rattle.yp_roster.specs.Passed.{IsMomentAt}
use Rattle.yp_roster.proofs.Begun.{IsBegun}
use Rattle.yp_roster.proofs.starting.begin.Given as goal

-- the slots of the receivers so far were added, with their classes
abbrev pub invariant-loop-receiver : goal.invariant-loop-receiver
invariant-loop-receiver l = record {
  begun : (m : Moment) (tracks : List Track) → IsMomentAt l.present.schema.now l.present.state.now m → live_at l.terms.id l.present.state.now.registry.live ≡ Some l.terms → AreSlotsOf l.present.schema.now l.present.state.now l.fn.slots.items tracks
      → IsBegun l.present.schema.now l.present.state.now m l.present.state.now.position l.terms l.mine tracks l.receiver-index l.slots.items;
  classes : AreClassesOf l.present.schema.now l.present.state.now l.fn.classes.items l.fn.slots.items → AreClassesOf l.present.schema.now l.present.state.now l.classes.items l.slots.items;
  numbers : KeepNumbers l.fn.classes.items l.classes.items;
}
