-- The slots of a roster in order: the tracks that they stand for, and their classes.
use Rattle.std.specs.Prelude.{ℕ, List, [], ◌∷◌, length, map, take}
use Rattle.std.specs.List.{AllByRecursion}
use Rattle.yp_schema.specs.declared.schema.SchemaNode.{SchemaNode}
use Rattle.yp_journal.specs.History.{JournalState}
use Rattle.yp_attempt.specs.Tracks.{Track}
use Rattle.yp_slot.specs.declared.classes.Class.{Class}
use Rattle.yp_slot.specs.declared.slot.Slot.{Slot}
use Rattle.yp_slot.specs.Classes.{AreClasses, HasClass, member_of}
use Rattle.yp_slot.specs.Slots.{IsSlotOf}

-- one stands for each track, in order
abbrev pub AreSlotsOf : List SchemaNode → JournalState → List Slot → List Track → Type 0
AreSlotsOf nodes state [] [] = Unit {0}
AreSlotsOf nodes state [] (track ∷ tracks) = ⊥
AreSlotsOf nodes state (slot ∷ slots) [] = ⊥
AreSlotsOf nodes state (slot ∷ slots) (track ∷ tracks) = IsSlotOf nodes state slot track × AreSlotsOf nodes state slots tracks

-- ---- classes

-- each has its class among some
abbrev pub HaveClasses : JournalState → List Class → List Slot → Type 0
HaveClasses state classes slots = AllByRecursion (HasClass state classes) (map member_of slots)

-- the classes of slots at a state
pub record AreClassesOf (nodes : List SchemaNode) (state : JournalState) (classes : List Class) (slots : List Slot) : Type 0 where
  pub fit : AreClasses nodes (length state.receivers) classes
  pub each : HaveClasses state classes slots

-- the classes of so many of some slots
abbrev pub AreClassedTo : List SchemaNode → JournalState → List Class → ℕ → List Slot → Type 0
AreClassedTo nodes state classes place slots = AreClassesOf nodes state classes (take place slots)
