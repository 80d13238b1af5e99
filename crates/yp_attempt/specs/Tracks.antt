-- A feed with what was selected for it since its base: what it offers, what is made of the offer, and what an answer makes of it (RFC 8641 sections 3.1, 3.3, 3.7 and 3.11, RFC 8639 section 2.7).
use Rattle.std.specs.Prelude.{◌≡◌, ℕ, Bool, true, false, List, [], Option, Some, None, if◌then◌else◌}
use Rattle.yp_base.specs.declared.row.Row.{Row}
use Rattle.yp_base.specs.Rows.{last_of}
use Rattle.yp_base.specs.declared.notice.Change.{Change}
use Rattle.yp_base.specs.declared.notice.Kinds.{Kinds}
use Rattle.yp_base.specs.declared.notice.Trigger.{Trigger}
use Rattle.yp_base.specs.declared.notice.Trigger.TheVariants.{Periodic as Every, OnChange}
use Rattle.yp_feed.specs.declared.item.Item.{Item}
use Rattle.yp_feed.specs.declared.item.Item.TheVariants.{Started, Modified, Incomplete, Suspended, Resumed, Sync, Terminated, Changes, Periodic}
use Rattle.yp_feed.specs.Machine.{FeedState, freezes, after_freeze, offer_of, moves, looked, rebases, taken, refused}
use Rattle.yp_attempt.specs.Content.{Content}

-- ---- tracks

-- a record that was set aside: the positions from which and at which it was made, the tick, and its edits (RFC 8641 section 3.11.1)
pub record Frozen : Type 0 where
  pub from : ℕ
  pub position : ℕ
  pub tick : ℕ
  pub edits : List Change

-- a feed with its window, which is the selection at its base and those of the positions after it, and the record that was set aside
pub record Track : Type 0 where
  pub feed : FeedState
  pub first : List Row
  pub later : List (List Row)
  pub frozen : Option Frozen

-- what is selected now
abbrev pub current : Track → List Row
current track = last_of track.first track.later

-- the kinds of edits that a subscription leaves out; a periodic one leaves out none (RFC 8641 section 3.1)
abbrev pub excluded_kinds : Trigger → Kinds
excluded_kinds (Every period anchor) = record { create = false; delete = false; insert = false; moved = false; replace = false }
excluded_kinds (OnChange dampening sync excluded) = excluded

-- the number of places that changed since the base
abbrev pub roots_in : Content → Track → ℕ
roots_in c track = c.roots track.first track.later

-- the record of what changed since the base
abbrev pub record_in : Content → Track → List Change
record_in c track = c.window_record (excluded_kinds track.feed.trigger) track.first track.later

-- the number of its edits
abbrev pub edit_count : Content → Track → ℕ
edit_count c track = c.edits (record_in c track)

-- ---- what is offered

-- what its feed offers at a stamp
abbrev pub offered_item : Content → ℕ → Track → Option Item
offered_item c stamp track = offer_of track.feed (roots_in c track) (edit_count c track) stamp

-- what a notification says: all that is selected, what changed, what changed marked as not all, or a change of the subscription's state, by its item (RFC 8641 sections 3.7 and 3.11.1, RFC 8639 section 2.7)
pub data Body : Type 0 where
  All : (rows : List Row) → Body
  Edits : (edits : List Change) → Body
  Marked : (edits : List Change) → Body
  Notice : (item : Item) → Body

-- what was made: the position from which it tells, those at which it was made and the tick, and what it says
pub record Made : Type 0 where
  pub from : ℕ
  pub position : ℕ
  pub tick : ℕ
  pub body : Body

-- what is made of the present alone
abbrev pub made_here : ℕ → ℕ → Body → Made
made_here n stamp body = record { from = n; position = n; tick = stamp; body = body }

-- what is made of a record that was set aside, as it was then
abbrev pub made_frozen : Option Frozen → ℕ → ℕ → Made
made_frozen None n stamp = made_here n stamp (Notice Incomplete)
made_frozen (Some frozen) n stamp = record { from = frozen.from; position = frozen.position; tick = frozen.tick; body = Marked frozen.edits }

-- what is made of an item at a position and a tick
abbrev pub item_made : Content → Track → Item → ℕ → ℕ → Made
item_made c track Started n stamp = made_here n stamp (Notice Started)
item_made c track Modified n stamp = made_here n stamp (Notice Modified)
item_made c track Incomplete n stamp = made_frozen track.frozen n stamp
item_made c track Suspended n stamp = made_here n stamp (Notice Suspended)
item_made c track Resumed n stamp = made_here n stamp (Notice Resumed)
item_made c track Sync n stamp = made_here n stamp (All (current track))
item_made c track Terminated n stamp = made_here n stamp (Notice Terminated)
item_made c track Changes n stamp = record { from = track.feed.base; position = n; tick = stamp; body = Edits (record_in c track) }
item_made c track Periodic n stamp = made_here n stamp (All (current track))

-- whether an item is a change of the subscription's state (RFC 8639 section 2.7)
abbrev pub is_state_change : Item → Bool
is_state_change Started = true
is_state_change Modified = true
is_state_change Incomplete = false
is_state_change Suspended = true
is_state_change Resumed = true
is_state_change Sync = false
is_state_change Terminated = true
is_state_change Changes = false
is_state_change Periodic = false

-- what the queue of a receiver answers
pub data Answer : Type 0 where
  Took : Answer
  Full : Answer

-- whether what is offered is taken
abbrev pub is_taken : Answer → Bool
is_taken Took = true
is_taken Full = false

-- one attempt: of which subscription and receiver an item was offered, what was made of it, at which position and stamp, and the answer
pub record Attempt : Type 0 where
  pub sub : ℕ
  pub receiver : ℕ
  pub item : Item
  pub made : Made
  pub at : ℕ
  pub stamp : ℕ
  pub answer : Answer

-- the attempt of an item of a track
abbrev pub attempt : Content → ℕ → ℕ → Track → Item → Answer → Attempt
attempt c n stamp track item answer = record { sub = track.feed.sub; receiver = track.feed.receiver; item = item; made = item_made c track item n stamp; at = n; stamp = stamp; answer = answer }

-- ---- what becomes of a track

-- a record that was set aside is kept as long as it is owed
abbrev pub kept_if : Bool → Option Frozen → Option Frozen
kept_if true frozen = frozen
kept_if false frozen = None

-- a track with its feed after a step; where the base moved, the window begins anew at what is selected now
abbrev pub with_feed : Track → FeedState → Bool → Track
with_feed track feed moved = record track {
  feed = feed;
  first = if moved then current track else track.first;
  later = if moved then [] else track.later;
  frozen = kept_if feed.owed.incomplete track.frozen;
}

-- a track whose window begins anew at a position, with what is selected now
pub record BeginsAnew (n : ℕ) (old new : Track) : Type 0 where
  pub base : new.feed.base ≡ n
  pub first : new.first ≡ current old
  pub later : new.later ≡ []

-- a track after it was tried whether its record is to be set aside (RFC 8641 section 3.11.1)
abbrev pub freeze_tried : Content → ℕ → ℕ → Track → Track
freeze_tried c n stamp track = record track {
  feed = after_freeze track.feed (roots_in c track);
  frozen = if freezes track.feed (roots_in c track) then Some (record { from = track.feed.base; position = n; tick = stamp; edits = record_in c track }) else track.frozen;
}

-- whether its record is due but has no edit, so that the base moves without an offer
abbrev pub moving : Content → ℕ → Track → Bool
moving c stamp track = moves track.feed (roots_in c track) (edit_count c track) stamp

-- a track after it was asked for its offer; what was set aside stays
abbrev pub rebased : Content → ℕ → ℕ → Track → Track
rebased c n stamp track = record track {
  feed = looked track.feed (roots_in c track) (edit_count c track) n stamp;
  first = if moving c stamp track then current track else track.first;
  later = if moving c stamp track then [] else track.later;
}

-- a track after the answer to its item: a full queue moves no base, and may let the record be set aside
abbrev pub after_answer : Content → ℕ → ℕ → Track → Item → Answer → Track
after_answer c n stamp track item Took = with_feed track (taken track.feed item n stamp) (rebases track.feed item)
after_answer c n stamp track item Full = freeze_tried c n stamp (with_feed track (refused track.feed item stamp) false)
