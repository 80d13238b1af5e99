-- What an entry makes of the slots of a roster, one after another.
use Rattle.std.specs.List.{position_or_len}
use Rattle.std.specs.Prelude.{drop, false, filter, map, nat_le, nat_lt, not, take, ◌≡◌, ◌++◌, ℕ, zero, suc, List, [], ◌∷◌, true, is_some}
use Rattle.yp_schema.specs.declared.schema.SchemaNode.{SchemaNode}
use Rattle.yp_patch.specs.declared.patch.Patch.{Patch}
use Rattle.yp_terms.specs.Terms.{Terms}
use Rattle.yp_journal.specs.declared.command.Command.TheVariants.{Edit}
use Rattle.yp_journal.specs.History.{JournalState}
use Rattle.yp_touch.specs.declared.root.Root.{Root}
use Rattle.yp_attempt.specs.Moments.{Act, Moment, is_kept_by, new_track}
use Rattle.yp_attempt.specs.Tracks.{Track}
use Rattle.yp_moment.specs.Entries.{selected_at}
use Rattle.yp_slot.specs.declared.classes.Class.{Class}
use Rattle.yp_slot.specs.declared.following.Entered.{Entered}
use Rattle.yp_slot.specs.declared.slot.Slot.{Slot}
use Rattle.yp_slot.specs.Classes.{look_back}
use Rattle.yp_slot.specs.Slots.{IsSlotOf}
use Rattle.yp_slot.specs.Steps.{IsStepOf, entered_track, names_of, touches}
use Rattle.yp_roster.specs.Ordered.{AreSlotsOf}

-- so many of the slots went on by it, and the others not yet
abbrev pub AreEnteredTo : Entered → JournalState → ℕ → List Slot → List Track → Type 0
AreEnteredTo entered before zero slots tracks = AreSlotsOf entered.present.schema.now before slots tracks
AreEnteredTo entered before (suc place) [] [] = Unit {0}
AreEnteredTo entered before (suc place) [] (track ∷ tracks) = ⊥
AreEnteredTo entered before (suc place) (slot ∷ slots) [] = ⊥
AreEnteredTo entered before (suc place) (slot ∷ slots) (track ∷ tracks) = IsSlotOf entered.present.schema.now entered.present.state.now slot (entered_track entered before track) × AreEnteredTo entered before place slots tracks

-- ---- patches by class

-- the tree of the rows before an entry is there for a patch, where a class looks back at them
abbrev pub HasTree : Entered → List Class → Type 0
HasTree entered classes = (patch : Patch) → entered.entry.now.command ≡ Edit patch → look_back classes ≡ true → is_some entered.before ≡ true

-- the same of classes in order
abbrev pub AreStepsOf : List SchemaNode → JournalState → JournalState → List Class → List (List Root) → Type 0
AreStepsOf nodes before after [] [] = Unit {0}
AreStepsOf nodes before after [] (step ∷ steps) = ⊥
AreStepsOf nodes before after (class ∷ classes) [] = ⊥
AreStepsOf nodes before after (class ∷ classes) (step ∷ steps) = IsStepOf nodes before after class step × AreStepsOf nodes before after classes steps

-- ---- new subscriptions

-- a moment of a state: at its tick, with what is selected there
pub record IsMomentAt (nodes : List SchemaNode) (state : JournalState) (m : Moment) : Type 0 where
  pub stamp : m.stamp ≡ state.stamp
  pub selection : (id receiver : ℕ) → m.selection id receiver ≡ selected_at nodes state id receiver

-- the tracks of a subscription that starts, for those of some receivers that it names
abbrev pub new_tracks : Moment → ℕ → Terms → List ℕ → List Track
new_tracks m n terms receivers = map (new_track m n terms.id terms.trigger terms.configured) (filter (names_of terms) receivers)

-- the place of the first slot of which the subscription's id isn't below an id, and past them all where there is none
abbrev pub place_from : ℕ → List Slot → ℕ
place_from id slots = position_or_len (λ slot. nat_le id slot.feed.sub) slots

-- slots with new ones at the place of their subscription's id
abbrev pub with_new : ℕ → List Slot → List Slot → List Slot
with_new id new slots = take (place_from id slots) slots ++ (new ++ drop (place_from id slots) slots)

-- tracks with new ones before the first of which the subscription's id isn't below an id
abbrev pub with_tracks : ℕ → List Track → List Track → List Track
with_tracks id new tracks = filter (λ track. nat_lt track.feed.sub id) tracks ++ (new ++ filter (λ track. not (nat_lt track.feed.sub id)) tracks)

-- ---- acts

-- an act does nothing to feeds that there are
pub record IsUntouched (act : Act) : Type 0 where
  pub touched : (id : ℕ) → touches act id ≡ false
  pub kept : (track : Track) → is_kept_by act track ≡ true
