-- A roster of the feeds of some receivers: the entries of a journal and the answers that it stands for, and what it offers next.
use Rattle.std.specs.Prelude.{◌≡◌, ℕ, ◌≤◌, ◌∷◌, ◌++◌, List, length, map, take, Option, Some, None}
use Rattle.std.specs.List.{AllByRecursion}
use Rattle.yp_schema.specs.declared.schema.SchemaNode.{SchemaNode}
use Rattle.yp_schema.specs.WellFormed.{IsSchema}
use Rattle.yp_schema.specs.Datastore.{IsDatastore}
use Rattle.yp_registry.specs.Ids.{HasRisingIds}
use Rattle.yp_registry.specs.Registry.{IsRegistryOf}
use Rattle.yp_time.specs.Ticks.{tick_limit}
use Rattle.yp_journal.specs.declared.entry.Entry.{Entry}
use Rattle.yp_journal.specs.declared.receiver.ReceiverInfo.{ReceiverInfo}
use Rattle.yp_journal.specs.History.{JournalState, first_state, state_of, IsLegal}
use Rattle.yp_attempt.specs.Moments.{Moment}
use Rattle.yp_attempt.specs.Runs.{Standing, first_offer}
use Rattle.yp_attempt.specs.Tracks.{Answer, Track, offered_item}
use Rattle.yp_attempt.specs.Workers.{Stands, ready}
use Rattle.yp_moment.specs.Entries.{moments_of}
use Rattle.yp_moment.specs.Windows.{recorded}
use Rattle.yp_roster.specs.declared.roster.Offer.{Offer}
use Rattle.yp_roster.specs.declared.roster.Roster.{Roster}
use Rattle.yp_slot.specs.declared.slot.Looked.{Looked}
use Rattle.yp_slot.specs.declared.slot.Slot.{Slot}
use Rattle.yp_roster.specs.Ordered.{AreClassesOf, AreSlotsOf}
use Rattle.yp_slot.specs.Records.{AreTold}
use Rattle.yp_slot.specs.Slots.{IsOfferOf, IsQuiet}

-- a track that was looked at, at a state
abbrev pub ready_at : JournalState → Track → Track
ready_at state track = ready recorded state.position state.stamp track

-- where a roster stands with some tracks, at a state
abbrev pub standing_at : JournalState → List Track → Standing
standing_at state tracks = record { position = state.position; stamp = state.stamp; tracks = tracks }

-- ---- what a roster stands for

-- the slots of some receivers stand at a state for entries and answers: each for a track of a worker that does
pub record IsRosterAt (nodes : List SchemaNode) (state : JournalState) (mine : List ℕ) (past : List Moment) (answers : List Answer) (slots : List Slot) : Type 0 where
  pub tracks : List Track
  pub stands : Stands recorded mine past answers (standing_at state tracks)
  pub kept : AreSlotsOf nodes state slots tracks

-- so they do for the entries of a legal journal and the answers to the offers that these made
pub record IsRosterOf (nodes : List SchemaNode) (receivers : List ReceiverInfo) (mine : List ℕ) (entries : List Entry) (answers : List Answer) (slots : List Slot) : Type 0 where
  pub schema : IsSchema nodes
  pub legal : IsLegal nodes (first_state receivers) entries
  pub stands : IsRosterAt nodes (state_of nodes (first_state receivers) entries) mine (moments_of nodes receivers entries) answers slots

-- ---- how its slots share, and which were looked at

-- so many of some slots are
abbrev pub AreQuietTo : JournalState → ℕ → List Slot → Type 0
AreQuietTo state place slots = AllByRecursion (IsQuiet state) (take place slots)

-- the slots of a roster have their classes at a state, each record that is kept is that of its class there, and the first slots, so many as it says, offer nothing
pub record IsClassed (nodes : List SchemaNode) (state : JournalState) (roster : Roster) : Type 0 where
  pub classes : AreClassesOf nodes state roster.classes.all.items roster.slots.items
  pub told : AreTold nodes state roster.classes.all.items roster.classes.told.items
  pub within : roster.looked ≤ length roster.slots.items
  pub quiet : AreQuietTo state roster.looked roster.slots.items

-- ---- what a roster offers

-- all slots were looked at, and none offers anything
pub record IsIdleAt (nodes : List SchemaNode) (state : JournalState) (mine : List ℕ) (past : List Moment) (answers : List Answer) (slots : List Slot) : Type 0 where
  pub tracks : List Track
  pub stands : Stands recorded mine past answers (standing_at state tracks)
  pub kept : AreSlotsOf nodes state slots tracks
  pub looked : map (ready_at state) tracks ≡ tracks
  pub none : first_offer recorded state.stamp tracks ≡ None

-- the slot at a place offers an item, which is the first offer of all tracks once they are looked at; so far only those up to it were
pub record IsFoundAt (nodes : List SchemaNode) (state : JournalState) (mine : List ℕ) (past : List Moment) (answers : List Answer) (offer : Offer) (slots : List Slot) : Type 0 where
  pub before : List Track
  pub track : Track
  pub after : List Track
  pub stands : Stands recorded mine past answers (standing_at state (before ++ track ∷ after))
  pub kept : AreSlotsOf nodes state slots (before ++ track ∷ after)
  pub place : length before ≡ offer.place
  pub first : first_offer recorded state.stamp (map (ready_at state) (before ++ track ∷ after)) ≡ Some (record { before = before; track = track; item = offer.item; after = map (ready_at state) after })
  pub made : IsOfferOf nodes state.position state.stamp track (record { item = Some offer.item; changes = offer.changes })

-- what comes next: the first offer, and none exactly where nothing is offered
abbrev pub IsNextAt : List SchemaNode → JournalState → List ℕ → List Moment → List Answer → Option Offer → List Slot → Type 0
IsNextAt nodes state mine past answers None slots = IsIdleAt nodes state mine past answers slots
IsNextAt nodes state mine past answers (Some offer) slots = IsFoundAt nodes state mine past answers offer slots

-- ---- looks at slots in order

-- so many of some tracks were looked at, and offer nothing
pub record IsLookedTo (nodes : List SchemaNode) (state : JournalState) (tracks : List Track) (place : ℕ) (slots : List Slot) : Type 0 where
  pub done : List Track
  pub more : List Track
  pub parts : tracks ≡ done ++ more
  pub count : length done ≡ place
  pub kept : AreSlotsOf nodes state slots (map (ready_at state) done ++ more)
  pub idle : AllByRecursion (λ track. offered_item recorded state.stamp track ≡ None) (map (ready_at state) done)

-- and then the one at this place was looked at, with what that found
pub record IsTurnOf (nodes : List SchemaNode) (state : JournalState) (tracks : List Track) (place : ℕ) (slots : List Slot) (found : Looked) : Type 0 where
  pub done : List Track
  pub track : Track
  pub more : List Track
  pub parts : tracks ≡ done ++ track ∷ more
  pub count : length done ≡ place
  pub kept : AreSlotsOf nodes state slots (map (ready_at state) done ++ ready_at state track ∷ more)
  pub idle : AllByRecursion (λ other. offered_item recorded state.stamp other ≡ None) (map (ready_at state) done)
  pub offer : IsOfferOf nodes state.position state.stamp (ready_at state track) found

-- ---- what the states of a journal keep

-- a state as every legal journal leaves it: ids rise, the registry is one of the schema with a user for each receiver, the rows are a datastore, and the tick is within the limit
pub record IsSound (nodes : List SchemaNode) (state : JournalState) : Type 0 where
  pub ids : HasRisingIds state.registry
  pub registry : IsRegistryOf nodes state.registry
  pub users : length state.registry.users ≡ length state.receivers
  pub datastore : IsDatastore nodes state.rows
  pub stamp : state.stamp ≤ tick_limit
