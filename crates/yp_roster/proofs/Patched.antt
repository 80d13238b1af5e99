-- Slots that go on by a patch, by the steps of their classes.
use Rattle.std.proofs.Common.{◌≡◌, ℕ, ◌+◌, ◌<◌, sym, subst, ◌∙◌, List, [], ◌∷◌, map, length, get_or, Some}
use Rattle.std.specs.Prelude.{slice_set}
use Rattle.std.specs.List.{AllByRecursion, slice_get}
use Rattle.std.proofs.lemmas.Option.{same_Some, slice_get_within}
use Rattle.yp_filter.specs.Filters.{Asked}
use Rattle.yp_nacm.specs.declared.compile.UserRules.{UserRules}
use Rattle.yp_nacm.specs.Decision.{is_readable}
use Rattle.yp_base.specs.declared.row.Row.{Row}
use Rattle.yp_kept.specs.Selection.{selection}
use Rattle.yp_touch.specs.Absorbed.{absorbed}
use Rattle.yp_schema.specs.declared.schema.SchemaNode.{SchemaNode}
use Rattle.yp_touch.specs.declared.root.Root.{Root}
use Rattle.yp_journal.specs.History.{JournalState, rules_at}
use Rattle.yp_attempt.specs.Tracks.{Track}
use Rattle.yp_slot.specs.declared.classes.Class.{Class}
use Rattle.yp_slot.specs.declared.following.Entered.{Entered}
use Rattle.yp_slot.specs.declared.slot.Slot.{Slot}
use Rattle.yp_roster.specs.Ordered.{AreClassesOf, HaveClasses, AreSlotsOf}
use Rattle.yp_slot.specs.Classes.{HasClass, IsClassOf, member_of}
use Rattle.yp_slot.specs.Slots.{IsSlotOf}
use Rattle.yp_roster.specs.Passed.{AreEnteredTo, AreStepsOf}
use Rattle.yp_slot.specs.Steps.{step_of, IsEnteredByPatch, IsPatchOf, IsStepOf, entered_track, with_next}
use Rattle.yp_roster.proofs.Classed.{class_alike, classes_alike, member_there, same_members, step_there}
use Rattle.yp_slot.specs.ListLaws.{one_of}
use Rattle.yp_roster.proofs.Entered.{entered_on}

-- the laws of patches that are rested on
pub record PatchesGoOn : Type 0 where
  pub patch : (e : Entered) (before : JournalState) → IsEnteredByPatch e before → IsPatchOf e.present.schema.now before e.present.state.now e.changed.now
  pub next : (e : Entered) (before : JournalState) → IsEnteredByPatch e before → (slot : Slot) (track : Track) → IsSlotOf e.present.schema.now e.present.state.now slot (with_next e.present.schema.now e.present.state.now track)
      → IsSlotOf e.present.schema.now e.present.state.now slot (entered_track e before track)
  pub unmoved : (e : Entered) (before : JournalState) → IsEnteredByPatch e before → (class : Class) → IsStepOf e.present.schema.now before e.present.state.now class [] → (slot : Slot) (track : Track)
      → IsClassOf e.present.state.now class (member_of slot) → IsSlotOf e.present.schema.now before slot track → IsSlotOf e.present.schema.now e.present.state.now slot (entered_track e before track)

-- the roots that a patch makes from nothing, for the rules of a receiver's user there
pub step_made : (nodes : List SchemaNode) (state after : JournalState) (asked : Asked) (receiver : ℕ) (rules : UserRules) (none touched : List Root) (before rows : List Row)
    → touched ≡ absorbed none (selection nodes asked (λ path. is_readable nodes rules path) before) (selection nodes asked (λ path. is_readable nodes rules path) rows)
    → none ≡ [] → rules ≡ rules_at after receiver → before ≡ state.rows → rows ≡ after.rows → touched ≡ step_of nodes state after asked receiver
step_made nodes state after asked receiver rules none touched before rows is empty own was now =
    is ∙ (λ i. absorbed (empty i) (selection nodes asked (λ path. is_readable nodes (own i) path) (was i)) (selection nodes asked (λ path. is_readable nodes (own i) path) (now i)))

module _ (laws : PatchesGoOn) (e : Entered) (before : JournalState) (by : IsEnteredByPatch e before) where
  -- the slots have their classes after it
  pub classed_after : (classes : List Class) (slots new : List Slot) → map member_of new ≡ map member_of slots → AreClassesOf e.present.schema.now before classes slots → AreClassesOf e.present.schema.now e.present.state.now classes new
  classed_after classes slots new same are =
      let patch = laws.patch e before by in
      let there = classes_alike e.present.schema.now before e.present.state.now patch.rules classes slots patch.comes.receivers are in
      record { fit = there.fit; each = same_members e.present.state.now classes slots new same there.each }

  -- where no step has a root, each slot stands as it is
  pub unmoved : (classes : List Class) (steps : List (List Root)) → AreStepsOf e.present.schema.now before e.present.state.now classes steps → AllByRecursion (λ step. step ≡ []) steps
      → (slots : List Slot) (tracks : List Track) → HaveClasses before classes slots → AreSlotsOf e.present.schema.now before slots tracks → AreSlotsOf e.present.schema.now e.present.state.now slots (map (entered_track e before) tracks)
  unmoved classes steps are none [] [] have slots = tt
  unmoved classes steps are none [] (track ∷ tracks) have slots = absurd slots
  unmoved classes steps are none (slot ∷ others) [] have slots = absurd slots
  unmoved classes steps are none (slot ∷ others) (track ∷ tracks) have slots =
      let nodes = e.present.schema.now in
      let after : JournalState = e.present.state.now in
      let patch = laws.patch e before by in
      let class = have.0.class in
      let step = step_there nodes before after classes steps slot.class class are have.0.there in
      let shares : IsClassOf after class (member_of slot) = class_alike nodes before after patch.rules class (member_of slot) have.0.shared in (
        laws.unmoved e before by class (subst (λ (s : List Root). IsStepOf nodes before after class s) (one_of (λ (s : List Root). s ≡ []) steps slot.class step.0 none step.1) step.2) slot track shares slots.0,
        unmoved classes steps are none others tracks have.1 slots.1,
      )

  -- the slot at a place goes on by the step of its class
  pub joined_on : (classes : List Class) (steps : List (List Root)) (step : List Root) (place : ℕ) (slots : List Slot) (tracks : List Track) (slot new : Slot) → AreStepsOf e.present.schema.now before e.present.state.now classes steps → HaveClasses before classes slots
      → place < length slots → slot ≡ get_or slots place slot → slice_get steps slot.class ≡ Some step
      → ((class : Class) → IsClassOf e.present.state.now class (member_of slot) → IsStepOf e.present.schema.now before e.present.state.now class step → (track : Track) → IsSlotOf e.present.schema.now before slot track → IsSlotOf e.present.schema.now e.present.state.now new (with_next e.present.schema.now e.present.state.now track))
      → AreEnteredTo e before place slots tracks → AreEnteredTo e before (place + 1) (slice_set slots place new) tracks
  joined_on classes steps step place slots tracks slot new are have within is there joins entered =
      let nodes = e.present.schema.now in
      let after : JournalState = e.present.state.now in
      let patch = laws.patch e before by in
      let has = member_there (HasClass before classes) slots place slot have within is in
      let found = step_there nodes before after classes steps slot.class has.class are has.there in
      let same : found.0 ≡ step = same_Some found.0 step (sym found.1 ∙ there) in
      let step_is : IsStepOf nodes before after has.class step = subst (λ (s : List Root). IsStepOf nodes before after has.class s) same found.2 in
      let shares : IsClassOf after has.class (member_of slot) = class_alike nodes before after patch.rules has.class (member_of slot) has.shared in
      entered_on e before place slots tracks slot new entered within is (λ track stands. laws.next e before by new track (joins has.class shares step_is track stands))

-- the class of the slot at a place has a step
pub step_within : (nodes : List SchemaNode) (before after : JournalState) (classes : List Class) (steps : List (List Root)) (slots : List Slot) (place : ℕ) (slot : Slot) → AreStepsOf nodes before after classes steps → HaveClasses before classes slots
    → place < length slots → slot ≡ get_or slots place slot → slot.class < length steps
step_within nodes before after classes steps slots place slot are have within is =
    let has = member_there (HasClass before classes) slots place slot have within is in
    let found = step_there nodes before after classes steps slot.class has.class are has.there in
    slice_get_within steps slot.class found.0 found.1
