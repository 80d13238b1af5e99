-- What is kept of a feed in place of its window of selections: the places that changed since its base, and the record that was set aside.
use Rattle.std.specs.Prelude.{◌≡◌, ℕ, ◌<◌, ◌≤◌, List, [], length, min, true, false, not, ◌&&◌, ◌||◌, Option, Some, None, IfSome}
use Rattle.std.specs.List.{AllByRecursion, slice_get}
use Rattle.yp_base.specs.declared.notice.Change.{Change}
use Rattle.serde_json.specs.Written.{compact_text}
use Rattle.yp_schema.specs.declared.schema.SchemaNode.{SchemaNode}
use Rattle.yp_schema.specs.Datastore.{IsDatastore}
use Rattle.yp_filter.specs.Fits.{filter_fits}
use Rattle.yp_filter.specs.View.{filter_view}
use Rattle.yp_nacm.specs.declared.compile.UserRules.{UserRules}
use Rattle.yp_registry.specs.Registry.{live_at}
use Rattle.yp_terms.specs.Terms.{Terms}
use Rattle.yp_encode.specs.Lines.{patch_data}
use Rattle.yp_encode.specs.Sendable.{IsSendableChange}
use Rattle.yp_kept.specs.Selection.{selection}
use Rattle.yp_touch.specs.Absorbed.{EndsAsRow, all_absorbed, paths_of, recorded as record_of_roots}
use Rattle.yp_time.specs.Ticks.{tick_limit}
use Rattle.yp_feed.specs.declared.item.Item.TheVariants.{Changes}
use Rattle.yp_feed.specs.Machine.{freezes, is_on_change, offer_of, resyncs}
use Rattle.yp_journal.specs.History.{JournalState, rules_at, may_read}
use Rattle.yp_attempt.specs.Tracks.{Frozen, Track, current, excluded_kinds, offered_item, record_in}
use Rattle.yp_moment.specs.Entries.{selected_at}
use Rattle.yp_moment.specs.Ids.{was_given}
use Rattle.yp_moment.specs.Windows.{recorded}
use Rattle.yp_slot.specs.declared.records.Record.{Record}
use Rattle.yp_slot.specs.declared.slot.Frozen.{Frozen as FrozenHere}
use Rattle.yp_slot.specs.declared.slot.Looked.{Looked}
use Rattle.yp_slot.specs.declared.slot.Slot.{Slot}

-- ---- states

-- these are the own rules of each receiver's user at a state
pub record AreRulesAt (state : JournalState) (rules : List UserRules) : Type 0 where
  pub count : length rules ≡ length state.receivers
  pub each : (number : ℕ) → number < length rules → slice_get rules number ≡ Some (rules_at state number)

-- a state that an entry left: its rows are a datastore, and these are the own rules of each receiver's user there
pub record IsPresent (nodes : List SchemaNode) (state : JournalState) (rules : List UserRules) : Type 0 where
  pub datastore : IsDatastore nodes state.rows
  pub own : AreRulesAt state rules

-- ---- slots

-- a record that was set aside
abbrev pub frozen_of : Option FrozenHere → Option Frozen
frozen_of None = None
frozen_of (Some frozen) = Some (record { from = frozen.from; position = frozen.position; tick = frozen.tick; edits = frozen.edits })

-- the subscription of an id was given, and isn't live any more
pub record HasEnded (state : JournalState) (id : ℕ) : Type 0 where
  pub given : was_given id state.registry ≡ true
  pub gone : live_at id state.registry.live ≡ None

-- the filter of a slot is that of its live subscription
pub record HasFilterOf (state : JournalState) (slot : Slot) : Type 0 where
  pub terms : Terms
  pub live : live_at slot.feed.sub state.registry.live ≡ Some terms
  pub filter : filter_view slot.filter ≡ terms.asked

-- a slot follows its subscription: its filter is of the schema, and is that of a live one; exactly where its end is owed, this has ended, and the filter is the last that it had
pub record FollowsTerms (nodes : List SchemaNode) (state : JournalState) (slot : Slot) : Type 0 where
  pub fits : filter_fits nodes (filter_view slot.filter) ≡ true
  pub lives : slot.feed.owed.terminated ≡ false → HasFilterOf state slot
  pub ended : slot.feed.owed.terminated ≡ true → HasEnded state slot.feed.sub

-- a record that was set aside can be sent
pub record IsSendableRecord (nodes : List SchemaNode) (frozen : FrozenHere) : Type 0 where
  pub edits : AllByRecursion (IsSendableChange nodes) frozen.edits
  pub tick : frozen.tick ≤ tick_limit

-- what is kept is of a state: the slot follows its subscription, the receiver is there, each place ends as a row does, and what was set aside can be sent
pub record IsKeptAt (nodes : List SchemaNode) (state : JournalState) (slot : Slot) : Type 0 where
  pub terms : FollowsTerms nodes state slot
  pub receiver : slot.feed.receiver < length state.receivers
  pub paths : AllByRecursion (EndsAsRow nodes) (paths_of slot.touched)
  pub sendable : IfSome slot.frozen (IsSendableRecord nodes)

-- whether the number of changed places and that of edits may be read: of a feed on change that owes neither all that it selects nor its end
pub record IsRead (track : Track) : Type 0 where
  pub on_change : is_on_change track.feed.trigger ≡ true
  pub unowed : (track.feed.owed.sync || track.feed.owed.terminated) ≡ false

-- what is kept stands for a track at a state: its feed and what it set aside are the track's, the last selection of the track is what is selected now, and where numbers of places may be read, these are the roots of the track's window; all that is selected is owed neither where the feed doesn't resync nor where its end is owed
pub record IsSlotOf (nodes : List SchemaNode) (state : JournalState) (slot : Slot) (track : Track) : Type 0 where
  pub kept : IsKeptAt nodes state slot
  pub feed : slot.feed ≡ track.feed
  pub frozen : frozen_of slot.frozen ≡ track.frozen
  pub roots : IsRead track → slot.touched ≡ all_absorbed [] track.first track.later
  pub plain : (track.feed.owed.sync && not (resyncs track.feed.trigger)) ≡ false
  pub apart : (track.feed.owed.sync && track.feed.owed.terminated) ≡ false
  pub current : current track ≡ selected_at nodes state track.feed.sub track.feed.receiver

-- ---- looks

-- the record of the places that are kept, at a state
abbrev pub record_at : List SchemaNode → JournalState → Slot → List Change
record_at nodes state slot = record_of_roots (excluded_kinds slot.feed.trigger) slot.touched (selection nodes (filter_view slot.filter) (may_read nodes state slot.feed.receiver) state.rows)

-- the edits of a record that is offered
abbrev pub edits_of : Option Record → Option (List Change)
edits_of None = None
edits_of (Some told) = Some told.changes

-- a record that is offered at a position: its text is that of its edits, and each can be sent
pub record IsOffered (nodes : List SchemaNode) (position : ℕ) (told : Record) : Type 0 where
  pub text : told.text ≡ compact_text (patch_data nodes position told.changes)
  pub sendable : AllByRecursion (IsSendableChange nodes) told.changes

-- what a look finds is what a track offers at a position and a stamp, with the record where changes are offered
pub record IsOfferOf (nodes : List SchemaNode) (position stamp : ℕ) (track : Track) (looked : Looked) : Type 0 where
  pub item : looked.item ≡ offered_item recorded stamp track
  pub changes : looked.item ≡ Some Changes → edits_of looked.changes ≡ Some (record_in recorded track)
  pub offered : IfSome looked.changes (IsOffered nodes position)

-- a look at a slot: for each track that it stood for, it stands for what becomes of this, and finds what that offers
abbrev pub IsLook : List SchemaNode → JournalState → (Track → Track) → Slot → Slot → Looked → Type 0
IsLook nodes state becomes old new looked = (track : Track) → IsSlotOf nodes state old track → IsSlotOf nodes state new (becomes track) × IsOfferOf nodes state.position state.stamp (becomes track) looked

-- a slot that was looked at and offers nothing: it has nothing to set aside, and would offer nothing even if the record of its places had an edit
pub record IsQuiet (state : JournalState) (slot : Slot) : Type 0 where
  pub thawed : freezes slot.feed (min (length slot.touched) 4294967295) ≡ false
  pub none : offer_of slot.feed (min (length slot.touched) 4294967295) 1 state.stamp ≡ None
