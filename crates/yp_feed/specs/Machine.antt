-- The machine of one feed: what it owes, what it offers, and what it becomes (RFC 8641 sections 3.1, 3.3 and 3.11, RFC 8639 sections 2.4 and 2.7).
use Rattle.std.specs.Prelude.{ℕ, ◌≡◌, ◌≤◌, ◌+◌, ◌==◌, min, nat_le, nat_lt, Bool, true, false, not, ◌&&◌, ◌||◌, Option, Some, None, if◌then◌else◌}
use Rattle.yp_base.specs.declared.notice.Kinds.{Kinds}
use Rattle.yp_base.specs.declared.notice.Trigger.{Trigger}
use Rattle.yp_base.specs.declared.notice.Trigger.TheVariants.{Periodic as Every, OnChange}
use Rattle.yp_time.specs.Due.{next_due_of}
use Rattle.yp_time.specs.Ticks.{tick_limit, IsAnchor}
use Rattle.yp_feed.specs.declared.item.Control.{Control}
use Rattle.yp_feed.specs.declared.item.Control.TheVariants.{Modify, Resync, Rules, End}
use Rattle.yp_feed.specs.declared.item.FeedTerms.{FeedTerms}
use Rattle.yp_feed.specs.declared.item.Item.{Item}
use Rattle.yp_feed.specs.declared.item.Item.TheVariants.{Started, Modified, Incomplete, Suspended, Resumed, Sync, Terminated, Changes, Periodic}
use Rattle.yp_feed.specs.declared.owed.Owed.{Owed}

-- a feed: the subscription and the number of the receiver that it is of, its trigger, what it owes, the position that its changes are counted from, the tick of its last record, its full attempts in a row, the stamp of the last of them, whether it is suspended, its due tick, and whether it is gone
pub record FeedState : Type 0 where
  pub sub : ℕ
  pub receiver : ℕ
  pub trigger : Trigger
  pub owed : Owed
  pub base : ℕ
  pub last_record : Option ℕ
  pub tries : ℕ
  pub last_full : Option ℕ
  pub suspended : Bool
  pub due : ℕ
  pub ended : Bool

-- ---- triggers

-- whether a feed sends all that it selects where its receiver's copy may be wrong: a periodic one, and one on change with sync-on-start
abbrev pub resyncs : Trigger → Bool
resyncs (Every period anchor) = true
resyncs (OnChange dampening sync excluded) = sync

abbrev pub excludes_none : Kinds → Bool
excludes_none kinds = not (kinds.create || (kinds.delete || (kinds.insert || (kinds.moved || kinds.replace))))

-- whether a receiver's copy is to be what is selected: of a periodic feed, and of one on change with sync-on-start that leaves no kind of change out
abbrev pub is_mirrored : Trigger → Bool
is_mirrored (Every period anchor) = true
is_mirrored (OnChange dampening sync excluded) = sync && excludes_none excluded

abbrev pub is_on_change : Trigger → Bool
is_on_change (Every period anchor) = false
is_on_change (OnChange dampening sync excluded) = true

-- the first due tick from a tick on; of a feed on change there is none, and 0 stands for it
abbrev pub due_from : Trigger → ℕ → ℕ
due_from (Every period (Some anchor)) tick = next_due_of anchor period tick
due_from (Every period None) tick = 0
due_from (OnChange dampening sync excluded) tick = 0

-- the terms after a modification: a trigger stays of its kind, and of one on change only the dampening period is given anew
abbrev pub amended : Trigger → Trigger → Trigger
amended (Every period anchor) (Every new_period new_anchor) = Every new_period new_anchor
amended (Every period anchor) (OnChange dampening sync excluded) = Every period anchor
amended (OnChange dampening sync excluded) (Every period anchor) = OnChange dampening sync excluded
amended (OnChange dampening sync excluded) (OnChange new_dampening new_sync new_excluded) = OnChange new_dampening sync excluded

-- ---- start and control

-- nothing is owed
abbrev pub owes_nothing : Owed
owes_nothing = record { started = false; modified = false; incomplete = false; suspended = false; resumed = false; sync = false; terminated = false }

-- a feed that begins at a position and a tick: a configured one says so, and one on change with sync-on-start begins with all that it selects
abbrev pub started : FeedTerms → ℕ → ℕ → FeedState
started terms n stamp = record {
  sub = terms.sub;
  receiver = terms.receiver;
  trigger = terms.trigger;
  owed = record owes_nothing { started = terms.configured; sync = is_on_change terms.trigger && resyncs terms.trigger };
  base = n;
  last_record = None;
  tries = 0;
  last_full = None;
  suspended = false;
  due = due_from terms.trigger stamp;
  ended = false;
}

-- what was set aside is dropped; a feed that resyncs owes all that it selects, and of another one changes are counted anew
abbrev pub restarted : FeedState → ℕ → FeedState
restarted f n = record f {
  owed = record f.owed { incomplete = false; sync = f.owed.sync || resyncs f.trigger };
  base = if not (resyncs f.trigger) then n else f.base;
}

-- new terms
abbrev pub with_terms : FeedState → Trigger → Bool → ℕ → FeedState
with_terms f trigger notify stamp = record f {
  trigger = amended f.trigger trigger;
  owed = record f.owed { modified = f.owed.modified || notify };
  due = due_from (amended f.trigger trigger) stamp;
}

-- a feed that ends: it says that it began, if it has not yet, and that it ended
abbrev pub ending : FeedState → FeedState
ending f = record f { owed = record owes_nothing { started = f.owed.started; terminated = true } }

-- what becomes of a feed by what happens to it; other rules leave a feed that ends
abbrev pub controlled : FeedState → Control → ℕ → ℕ → FeedState
controlled f (Modify trigger notify) n stamp = restarted (with_terms f trigger notify stamp) n
controlled f Resync n stamp = restarted f n
controlled f Rules n stamp = if f.owed.terminated then f else restarted f n
controlled f End n stamp = ending f

-- whether the base moves with a control
abbrev pub restarts : FeedState → Control → Bool
restarts f (Modify trigger notify) = not (resyncs (amended f.trigger trigger))
restarts f Resync = not (resyncs f.trigger)
restarts f Rules = not f.owed.terminated && not (resyncs f.trigger)
restarts f End = false

-- ---- changes that are set aside

-- whether changes are to be set aside: on change, after a full attempt, of more than 256 places, where nothing is owed that they would come after
abbrev pub freezes : FeedState → ℕ → Bool
freezes f roots =
    is_on_change f.trigger && (nat_lt 0 f.tries && (nat_lt 256 roots && not (f.owed.incomplete || (f.owed.suspended || (f.owed.resumed || (f.owed.sync || f.owed.terminated))))))

-- the feed then owes them, and after them all that it selects
abbrev pub frozen : FeedState → FeedState
frozen f = record f { owed = record f.owed { incomplete = true; sync = resyncs f.trigger } }

-- the feed after that was tried
abbrev pub after_freeze : FeedState → ℕ → FeedState
after_freeze f roots = if freezes f roots then frozen f else f

-- ---- offers

-- the first owed item in order, or another one
abbrev pub first_of : Bool → Bool → Bool → Bool → Bool → Bool → Bool → Option Item → Option Item
first_of true modified incomplete suspended resumed sync terminated other = Some Started
first_of false true incomplete suspended resumed sync terminated other = Some Modified
first_of false false true suspended resumed sync terminated other = Some Incomplete
first_of false false false true resumed sync terminated other = Some Suspended
first_of false false false false true sync terminated other = Some Resumed
first_of false false false false false true terminated other = Some Sync
first_of false false false false false false true other = Some Terminated
first_of false false false false false false false other = other

-- the same of what is owed
abbrev pub first_owed : Owed → Option Item → Option Item
first_owed o other = first_of o.started o.modified o.incomplete o.suspended o.resumed o.sync o.terminated other

-- whether anything is owed
abbrev pub owes : Owed → Bool
owes o = o.started || (o.modified || (o.incomplete || (o.suspended || (o.resumed || (o.sync || o.terminated)))))

-- whether the last full attempt was at this stamp
abbrev pub is_at : Option ℕ → ℕ → Bool
is_at None stamp = false
is_at (Some tick) stamp = tick == stamp

-- whether a record may be sent: there was none, or its dampening period is over
abbrev pub is_past : Option ℕ → ℕ → ℕ → Bool
is_past None dampening stamp = true
is_past (Some tick) dampening stamp = nat_le (tick + dampening) stamp

-- the first tick at which a record may be sent, 0 where there was none
abbrev pub record_tick : Option ℕ → ℕ → ℕ
record_tick None dampening = 0
record_tick (Some tick) dampening = tick + dampening

-- what is offered where nothing is owed: at a due tick all that is selected, and past the dampening period the changes, where there is an edit
abbrev pub due_item : Trigger → Option ℕ → ℕ → ℕ → ℕ → ℕ → Option Item
due_item (Every period anchor) last due roots edits stamp = if nat_le due stamp then Some Periodic else None
due_item (OnChange dampening sync excluded) last due roots edits stamp = if is_past last dampening stamp && (nat_lt 0 roots && nat_lt 0 edits) then Some Changes else None

-- what a feed offers at a stamp: nothing where its last full attempt was at it, else what it owes first, else what is due
abbrev pub offer_of : FeedState → ℕ → ℕ → ℕ → Option Item
offer_of f roots edits stamp =
    if is_at f.last_full stamp then None else first_owed f.owed (due_item f.trigger f.last_record f.due roots edits stamp)

-- whether a record is due that has no edit, since all its changes are of excluded kinds
abbrev pub is_empty_record : Trigger → Option ℕ → ℕ → ℕ → ℕ → Bool
is_empty_record (Every period anchor) last roots edits stamp = false
is_empty_record (OnChange dampening sync excluded) last roots edits stamp = is_past last dampening stamp && (nat_lt 0 roots && (edits == 0))

-- whether changes are counted anew, since they would make no edit
abbrev pub moves : FeedState → ℕ → ℕ → ℕ → Bool
moves f roots edits stamp = not (is_at f.last_full stamp) && (not (owes f.owed) && is_empty_record f.trigger f.last_record roots edits stamp)

-- a feed after it was asked for an offer
abbrev pub looked : FeedState → ℕ → ℕ → ℕ → ℕ → FeedState
looked f roots edits n stamp = record f { base = if moves f roots edits stamp then n else f.base }

-- ---- answers

-- whether the base moves with an accepted item
abbrev pub rebases : FeedState → Item → Bool
rebases f Started = false
rebases f Modified = false
rebases f Incomplete = not (resyncs f.trigger)
rebases f Suspended = false
rebases f Resumed = not (resyncs f.trigger)
rebases f Sync = true
rebases f Terminated = false
rebases f Changes = true
rebases f Periodic = true

-- what is owed without one item
abbrev pub without : Owed → Item → Owed
without o Started = record o { started = false }
without o Modified = record o { modified = false }
without o Incomplete = record o { incomplete = false }
without o Suspended = record o { suspended = false }
without o Resumed = record o { resumed = false }
without o Sync = record o { sync = false }
without o Terminated = record o { terminated = false }
without o Changes = o
without o Periodic = o

-- the tick of the last record after an item
abbrev pub recorded : Option ℕ → Item → ℕ → Option ℕ
recorded last Started stamp = last
recorded last Modified stamp = last
recorded last Incomplete stamp = Some stamp
recorded last Suspended stamp = last
recorded last Resumed stamp = last
recorded last Sync stamp = Some stamp
recorded last Terminated stamp = last
recorded last Changes stamp = Some stamp
recorded last Periodic stamp = last

-- the due tick after a full update
abbrev pub due_after : Trigger → ℕ → Item → ℕ → ℕ
due_after trigger due Started stamp = due
due_after trigger due Modified stamp = due
due_after trigger due Incomplete stamp = due
due_after trigger due Suspended stamp = due
due_after trigger due Resumed stamp = due
due_after trigger due Sync stamp = due_from trigger (stamp + 1)
due_after trigger due Terminated stamp = due
due_after trigger due Changes stamp = due
due_after trigger due Periodic stamp = due_from trigger (stamp + 1)

-- whether an item is that a feed goes on
abbrev pub is_resumed : Item → Bool
is_resumed Started = false
is_resumed Modified = false
is_resumed Incomplete = false
is_resumed Suspended = false
is_resumed Resumed = true
is_resumed Sync = false
is_resumed Terminated = false
is_resumed Changes = false
is_resumed Periodic = false

-- whether it is that a feed ended
abbrev pub is_terminated : Item → Bool
is_terminated Started = false
is_terminated Modified = false
is_terminated Incomplete = false
is_terminated Suspended = false
is_terminated Resumed = false
is_terminated Sync = false
is_terminated Terminated = true
is_terminated Changes = false
is_terminated Periodic = false

-- whether it is a periodic update
abbrev pub is_periodic : Item → Bool
is_periodic Started = false
is_periodic Modified = false
is_periodic Incomplete = false
is_periodic Suspended = false
is_periodic Resumed = false
is_periodic Sync = false
is_periodic Terminated = false
is_periodic Changes = false
is_periodic Periodic = true

-- a feed after its offer was taken
abbrev pub taken : FeedState → Item → ℕ → ℕ → FeedState
taken f item n stamp = record f {
  owed = without f.owed item;
  base = if rebases f item then n else f.base;
  last_record = recorded f.last_record item stamp;
  tries = 0;
  suspended = not (is_resumed item) && f.suspended;
  due = due_after f.trigger f.due item stamp;
  ended = is_terminated item;
}

-- a feed after one full attempt more; a periodic update is left out, and the next due tick is past the stamp
abbrev pub counted : FeedState → Item → ℕ → FeedState
counted f item stamp = record f {
  tries = min 8 (f.tries + 1);
  last_full = Some stamp;
  due = if is_periodic item then due_from f.trigger (stamp + 1) else f.due;
}

-- the eighth in a row, where the feed isn't suspended and doesn't end
abbrev pub suspends : FeedState → Bool
suspends f = (f.tries == 8) && (not f.suspended && not f.owed.terminated)

-- a suspended feed owes what it owed of its beginning and its terms, that it is suspended, that it goes on, and all that it selects
abbrev pub suspended : FeedState → FeedState
suspended f = record f {
  owed = record { started = f.owed.started; modified = f.owed.modified; incomplete = false; suspended = true; resumed = true; sync = resyncs f.trigger; terminated = false };
  suspended = true;
}

-- a feed after its full attempts were counted
abbrev pub after_count : FeedState → FeedState
after_count f = if suspends f then suspended f else f

-- a feed after its offer met a full queue
abbrev pub refused : FeedState → Item → ℕ → FeedState
refused f item stamp = after_count (counted f item stamp)

-- ---- what is looked at

-- the first tick at which a feed can offer what it doesn't owe: of a periodic one its due tick, and else the end of its dampening period, or 0 where it sent no record
abbrev pub tick_by : Trigger → Option ℕ → ℕ → ℕ
tick_by (Every period anchor) last due = due
tick_by (OnChange dampening sync excluded) last due = record_tick last dampening

abbrev pub next_tick : FeedState → ℕ
next_tick f = tick_by f.trigger f.last_record f.due

-- ---- ranges

-- a trigger that can be followed: a period of 10 ticks or more, with its anchor
abbrev pub IsTrigger : Trigger → Type 0
IsTrigger (Every period (Some anchor)) = (10 ≤ period) × IsAnchor anchor
IsTrigger (Every period None) = ⊥
IsTrigger (OnChange dampening sync excluded) = Unit {0}

abbrev pub IsStamp : Option ℕ → Type 0
IsStamp None = Unit {0}
IsStamp (Some tick) = tick ≤ tick_limit

-- what happens to a feed hands in terms that can be followed
abbrev pub HasTerms : Control → Type 0
HasTerms (Modify trigger notify) = IsTrigger trigger
HasTerms Resync = Unit {0}
HasTerms Rules = Unit {0}
HasTerms End = Unit {0}

-- what every feed keeps: its trigger can be followed, it counts at most eight full attempts, and one that doesn't resync owes no resynchronisation
pub record IsFeed (f : FeedState) : Type 0 where
  pub trigger : IsTrigger f.trigger
  pub tries : f.tries ≤ 8
  pub record_at : IsStamp f.last_record
  pub sync : (f.owed.sync && not (resyncs f.trigger)) ≡ false
