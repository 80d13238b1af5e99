-- What becomes of a slot by an answer and by an entry.
use Rattle.std.specs.Prelude.{◌≡◌, ◌==◌, ℕ, length, List, [], ◌∷◌, ◌++◌, Bool, true, false, IfSome, Some, None, if◌then◌else◌}
use Rattle.std.specs.List.{list_any}
use Rattle.yp_schema.specs.declared.schema.SchemaNode.{SchemaNode}
use Rattle.yp_schema.specs.Datastore.{IsDatastore}
use Rattle.yp_changes.specs.declared.changed.ChangedRow.{ChangedRow}
use Rattle.yp_changes.specs.Changes.{changed_rows}
use Rattle.yp_patch.specs.declared.patch.Patch.{Patch}
use Rattle.yp_filter.specs.Filters.{Asked}
use Rattle.yp_filter.specs.View.{filter_view}
use Rattle.yp_nacm.specs.declared.policy.Policy.{Policy}
use Rattle.yp_registry.specs.Registry.{live_at, IsRegistryOf}
use Rattle.yp_terms.specs.Terms.{Terms}
use Rattle.yp_registry.specs.Ids.{HasRisingIds}
use Rattle.yp_journal.specs.declared.command.Command.TheVariants.{Edit, Rules as Policies}
use Rattle.yp_journal.specs.History.{JournalState, may_read, rules_at, next_state, reply_to}
use Rattle.yp_kept.specs.Selection.{selection}
use Rattle.yp_touch.specs.declared.root.Root.{Root}
use Rattle.yp_touch.specs.Absorbed.{absorbed}
use Rattle.yp_feed.specs.declared.item.Control.TheVariants.{Modify, Resync, End}
use Rattle.yp_attempt.specs.Moments.{Act, Quiet, Starts, Controls, Drops, Moment, after_act, after_rules}
use Rattle.yp_attempt.specs.Tracks.{Track, Answer, Took, Full}
use Rattle.yp_moment.specs.Entries.{act_of, selected_at, moment_between}
use Rattle.yp_slot.specs.declared.acts.Act.{Act as ActHere}
use Rattle.yp_slot.specs.declared.acts.Act.TheVariants as here
use Rattle.yp_slot.specs.declared.classes.Class.{Class}
use Rattle.yp_slot.specs.declared.following.Entered.{Entered}
use Rattle.yp_slot.specs.declared.settling.Settled.{Settled}
use Rattle.yp_slot.specs.declared.settling.Settled.TheVariants as settled
use Rattle.yp_slot.specs.declared.slot.Slot.{Slot}
use Rattle.yp_slot.specs.Slots.{AreRulesAt, HasEnded, IsPresent}

-- ---- answers

abbrev pub answer_of : Settled → Answer
answer_of settled.Took = Took
answer_of settled.Full = Full

-- a slot whose feed went a step on: where the base moved, no place is kept, and what was set aside goes where it isn't owed any more
abbrev pub gone_on : Slot → Bool → Slot
gone_on slot moved = record slot {
  touched = if moved then [] else slot.touched;
  frozen = if slot.feed.owed.incomplete then slot.frozen else None;
}

-- ---- entries

-- the subscription of an id stays as it is: live with its terms, or ended
pub record StaysAsItIs (before after : JournalState) (id : ℕ) : Type 0 where
  pub live : (terms : Terms) → live_at id before.registry.live ≡ Some terms → live_at id after.registry.live ≡ Some terms
  pub ended : HasEnded before id → HasEnded after id

-- one state comes after another: the receivers stay, and each subscription stays as it is
pub record ComesAfter (before after : JournalState) : Type 0 where
  pub receivers : after.receivers ≡ before.receivers
  pub stays : (id : ℕ) → StaysAsItIs before after id

-- a patch made one state of another, with the rows that it changed: users read alike
pub record IsPatchOf (nodes : List SchemaNode) (before after : JournalState) (those : List ChangedRow) : Type 0 where
  pub comes : ComesAfter before after
  pub datastore : IsDatastore nodes before.rows
  pub rules : (number : ℕ) → rules_at before number ≡ rules_at after number
  pub changed : those ≡ changed_rows before.rows after.rows

-- a track with what is selected at a state as one selection more
abbrev pub with_next : List SchemaNode → JournalState → Track → Track
with_next nodes state track = record track { later = track.later ++ selected_at nodes state track.feed.sub track.feed.receiver ∷ [] }

-- an entry found a state: it left the present one, its reply is that of the history, and the rows, the rules and the registry are those of the two states
pub record IsEntered (entered : Entered) (before : JournalState) : Type 0 where
  pub present : IsPresent entered.present.schema.now entered.present.state.now entered.present.readers.now
  pub after : entered.present.state.now ≡ next_state entered.present.schema.now before entered.entry.now.command
  pub reply : entered.entry.now.reply ≡ reply_to entered.present.schema.now before entered.entry.now.command
  pub datastore : IsDatastore entered.present.schema.now before.rows
  pub rows : IfSome entered.before (λ tree. tree.now ≡ before.rows)
  pub own : AreRulesAt before entered.rules.now
  pub changed : entered.changed.now ≡ changed_rows before.rows entered.present.state.now.rows
  pub ids : HasRisingIds before.registry
  pub registry : IsRegistryOf entered.present.schema.now entered.present.state.now.registry
  pub users : length entered.present.state.now.registry.users ≡ length entered.present.state.now.receivers

-- a patch did
pub record IsEnteredByPatch (taken : Entered) (before : JournalState) : Type 0 where
  pub patch : Patch
  pub command : taken.entry.now.command ≡ Edit patch
  pub entered : IsEntered taken before

-- a policy did
pub record IsEnteredByRules (taken : Entered) (before : JournalState) : Type 0 where
  pub policy : Policy
  pub command : taken.entry.now.command ≡ Policies policy
  pub entered : IsEntered taken before

-- an entry left the rows, and what users may read
pub record LeavesSelections (taken : Entered) (before : JournalState) : Type 0 where
  pub entered : IsEntered taken before
  pub rows : taken.present.state.now.rows ≡ before.rows
  pub rules : (number : ℕ) → rules_at taken.present.state.now number ≡ rules_at before number

-- what the entry is to feeds
abbrev pub entered_moment : Entered → JournalState → Moment
entered_moment entered before = moment_between entered.present.schema.now before entered.entry.now entered.present.state.now

-- a track after it, before it is tried whether its record is to be set aside: the next look does that
abbrev pub entered_track : Entered → JournalState → Track → Track
entered_track entered before track = after_rules entered.present.state.now.position (entered_moment entered before)
    (after_act entered.present.state.now.position entered.present.state.now.stamp (entered_moment entered before).act (with_next entered.present.schema.now entered.present.state.now track))

-- ---- acts

-- whether terms name a receiver
abbrev pub names_of : Terms → ℕ → Bool
names_of terms receiver = list_any (λ other. other == receiver) terms.receivers

-- what an act of the program is to feeds
abbrev pub act_said : ActHere → Act
act_said here.Quiet = Quiet
act_said (here.Starts terms) = Starts terms.now.id terms.now.trigger terms.now.configured (names_of terms.now)
act_said (here.Amends terms told) = Controls terms.now.id (Modify terms.now.trigger told)
act_said (here.Resyncs id) = Controls id Resync
act_said (here.Ends id) = Controls id End
act_said (here.Drops id) = Drops id

-- the terms with which a subscription starts or goes on are live
abbrev pub HasLiveTerms : List Terms → ActHere → Type 0
HasLiveTerms live here.Quiet = Unit {0}
HasLiveTerms live (here.Starts terms) = live_at terms.now.id live ≡ Some terms.now
HasLiveTerms live (here.Amends terms told) = live_at terms.now.id live ≡ Some terms.now
HasLiveTerms live (here.Resyncs id) = Unit {0}
HasLiveTerms live (here.Ends id) = Unit {0}
HasLiveTerms live (here.Drops id) = Unit {0}

-- an act of the program is what an entry does to subscriptions
pub record IsActOf (taken : Entered) (act : ActHere) : Type 0 where
  pub said : act_of taken.entry.now.command taken.entry.now.reply taken.present.state.now ≡ act_said act
  pub live : HasLiveTerms taken.present.state.now.registry.live act

-- whether an act does something to the feeds that the subscription of an id has
abbrev pub touches : Act → ℕ → Bool
touches Quiet id = false
touches (Starts sub trigger configured names) id = false
touches (Controls sub control) id = id == sub
touches (Drops sub) id = id == sub

-- ---- patches by class

-- the roots, from nothing, of a step between two states of what a filter selects for the user of a receiver, by the rules of the second
abbrev pub step_of : List SchemaNode → JournalState → JournalState → Asked → ℕ → List Root
step_of nodes before after asked receiver = absorbed [] (selection nodes asked (may_read nodes after receiver) before.rows) (selection nodes asked (may_read nodes after receiver) after.rows)

-- those of what a class selects, where it sends on change
abbrev pub IsStepOf : List SchemaNode → JournalState → JournalState → Class → List Root → Type 0
IsStepOf nodes before after class step = class.on_change ≡ true → step ≡ step_of nodes before after (filter_view class.filter) class.first
