-- A track stays linked where its offer is taken, and the attempt follows.
use Rattle.std.proofs.Common.{◌≡◌, ℕ, refl, sym, ap, subst, ◌∙◌, Bool, true, false, not, ◌||◌, [], Option, Some, arith}
use Rattle.std.specs.Prelude.{if◌then◌else◌}
use Rattle.std.proofs.lemmas.Bool.{true≢false, or_left}
use Rattle.std.proofs.lemmas.Option.{none-some}
use Rattle.yp_feed.specs.declared.item.Item.{Item}
use Rattle.yp_feed.specs.declared.item.Item.TheVariants.{Started, Modified, Incomplete, Suspended, Resumed, Sync, Terminated, Changes, Periodic}
use Rattle.yp_feed.specs.Machine.{resyncs, is_on_change}
use Rattle.yp_attempt.specs.Content.{Content}
use Rattle.yp_attempt.specs.Tracks.{Track, Frozen, Took, current, kept_if, record_in}
use Rattle.yp_mirror.specs.Heard.{Told}
use Rattle.yp_mirror.specs.Stories.{Story, Leads}
use Rattle.yp_mirror.specs.Links.{IsFrozen, Linked}
use Rattle.yp_mirror.proofs.Facts.{clash, or_other, eight_no, none_between, moved_current, moved_first, moved_window, moved_base, moved_steady, no_full, here}
use Rattle.yp_mirror.proofs.Links.{GoesOn, mirrored_resyncs, resyncing_if, keep_frozen, no_frozen, frozen_is, window_told, record_fresh}
use Rattle.yp_mirror.proofs.Offering.{Offered}

-- ---- changes of the subscription's state

-- a change of state that is taken leaves the window and the copy
state_linked : (c : Content) (story : Story) (receiver n stamp : ℕ) (track : Track) (t : Told) (started modified suspended : Bool) → (suspended ≡ true → t.met_eight ≡ true) → Linked c story receiver n n stamp track t
    → Linked c story receiver n n stamp (record track {
      feed = record track.feed { owed = record track.feed.owed { started = started; modified = modified; suspended = suspended }; tries = 0; ended = false };
      frozen = kept_if track.feed.owed.incomplete track.frozen;
    }) (record t { fulls = 0 })
state_linked c story receiver n stamp track t started modified suspended eight h = record {
  mine = h.mine;
  mirrored = h.mirrored;
  resyncing = h.resyncing;
  current = h.current;
  first = h.first;
  window = h.window;
  base = h.base;
  last = h.last;
  copy = h.copy;
  rises = h.rises;
  steady = h.steady;
  frozen = keep_frozen c story track.feed.sub n n track.feed.owed.sync track.feed.owed.terminated t.rows t.last track.feed.owed.incomplete track.frozen h.frozen;
  plain = h.plain;
  tries = refl;
  last_full = h.last_full;
  stamps = h.stamps;
  counted = λ x. no_full x;
  eight = λ e. eight_no e;
  held = h.held;
  held_sync = h.held_sync;
  held_none = h.held_none;
  awaits = h.awaits;
  awaits_none = h.awaits_none;
  after_full = h.after_full;
  after_eight = eight;
}

took_started : (c : Content) (story : Story) (receiver n stamp : ℕ) (track : Track) (t : Told) → Linked c story receiver n n stamp track t → GoesOn c story receiver n stamp track t Started Took
took_started c story receiver n stamp track t h = (
  record { made = tt; within = here n; steady = none_between story track.feed.sub n; answer = tt; after = tt },
  λ lives. state_linked c story receiver n stamp track t false track.feed.owed.modified track.feed.owed.suspended h.after_eight h,
)

took_modified : (c : Content) (story : Story) (receiver n stamp : ℕ) (track : Track) (t : Told) → Linked c story receiver n n stamp track t → GoesOn c story receiver n stamp track t Modified Took
took_modified c story receiver n stamp track t h = (
  record { made = tt; within = here n; steady = none_between story track.feed.sub n; answer = tt; after = tt },
  λ lives. state_linked c story receiver n stamp track t track.feed.owed.started false track.feed.owed.suspended h.after_eight h,
)

took_suspended : (c : Content) (story : Story) (receiver n stamp : ℕ) (track : Track) (t : Told) → Linked c story receiver n n stamp track t → track.feed.owed.suspended ≡ true → GoesOn c story receiver n stamp track t Suspended Took
took_suspended c story receiver n stamp track t h there = (
  record { made = tt; within = here n; steady = none_between story track.feed.sub n; answer = tt; after = h.after_eight there },
  λ lives. state_linked c story receiver n stamp track t track.feed.owed.started track.feed.owed.modified false (λ e. absurd (true≢false (sym e))) h,
)

took_terminated : (c : Content) (story : Story) (receiver n stamp : ℕ) (track : Track) (t : Told) → Linked c story receiver n n stamp track t → GoesOn c story receiver n stamp track t Terminated Took
took_terminated c story receiver n stamp track t h = (record { made = tt; within = here n; steady = none_between story track.feed.sub n; answer = tt; after = tt }, λ lives. absurd (true≢false lives))

took_resumed : (c : Content) (story : Story) (receiver n stamp : ℕ) (track : Track) (t : Told) → Linked c story receiver n n stamp track t → track.feed.owed.incomplete ≡ false → track.feed.owed.suspended ≡ false → GoesOn c story receiver n stamp track t Resumed Took
took_resumed c story receiver n stamp track t h none not_suspended = (
  record { made = tt; within = here n; steady = none_between story track.feed.sub n; answer = tt; after = tt },
  λ lives. record {
    mine = h.mine;
    mirrored = h.mirrored;
    resyncing = h.resyncing;
    current = moved_current (not (resyncs track.feed.trigger)) track.first track.later ∙ h.current;
    first = moved_first (not (resyncs track.feed.trigger)) track.first track.later (story.want track.feed.sub) track.feed.base n h.first h.current;
    window = moved_window story track.feed.sub (not (resyncs track.feed.trigger)) track.feed.base n track.later h.window;
    base = moved_base (not (resyncs track.feed.trigger)) track.feed.base n h.base;
    last = λ m on quiet. h.last m on quiet ∙ ap (λ (b : Bool). Some (if not b then n else track.feed.base)) (sym (mirrored_resyncs track.feed.trigger (sym h.mirrored ∙ m)));
    copy = h.copy;
    rises = h.rises;
    steady = λ quiet. moved_steady story track.feed.sub (not (resyncs track.feed.trigger)) track.feed.base n (h.steady quiet);
    frozen = no_frozen c story track.feed.sub n n track.feed.owed.sync track.feed.owed.terminated t.rows t.last track.feed.owed.incomplete track.frozen none;
    plain = h.plain;
    tries = refl;
    last_full = h.last_full;
    stamps = h.stamps;
    counted = λ x. no_full x;
    eight = λ e. eight_no e;
    held = λ s. absurd (true≢false (sym s));
    held_sync = λ r s. absurd (true≢false (sym s));
    held_none = λ s. absurd (true≢false (sym s));
    awaits = h.awaits;
    awaits_none = h.awaits_none;
    after_full = h.after_full;
    after_eight = λ e. clash track.feed.owed.suspended e not_suspended;
  },
)

-- ---- full updates

-- a full update that is taken makes the copy what is selected now
full_linked : (c : Content) (story : Story) (receiver n stamp : ℕ) (track : Track) (t : Told) (sync : Bool) (last_record : Option ℕ) (due : ℕ) → Linked c story receiver n n stamp track t → track.feed.owed.incomplete ≡ false
    → (resyncs track.feed.trigger ≡ false → sync ≡ false) → (story.resyncing track.feed.sub ≡ true → track.feed.suspended ≡ true → (sync || track.feed.owed.terminated) ≡ true)
    → Linked c story receiver n n stamp (record track {
      feed = record track.feed { owed = record track.feed.owed { sync = sync }; base = n; last_record = last_record; tries = 0; due = due; ended = false };
      first = current track;
      later = [];
      frozen = kept_if track.feed.owed.incomplete track.frozen;
    }) (record t { rows = current track; last = Some n; fulls = 0; met_full = false; awaits = false })
full_linked c story receiver n stamp track t sync last_record due h none plain held_sync = record {
  mine = h.mine;
  mirrored = h.mirrored;
  resyncing = h.resyncing;
  current = h.current;
  first = h.current;
  window = tt;
  base = omega arith;
  last = λ m on quiet. refl;
  copy = λ m. h.current;
  rises = omega arith;
  steady = λ quiet. none_between story track.feed.sub n;
  frozen = no_frozen c story track.feed.sub n n sync track.feed.owed.terminated (current track) (Some n) track.feed.owed.incomplete track.frozen none;
  plain = plain;
  tries = refl;
  last_full = h.last_full;
  stamps = h.stamps;
  counted = λ x. no_full x;
  eight = λ e. eight_no e;
  held = h.held;
  held_sync = held_sync;
  held_none = h.held_none;
  awaits = λ r a. absurd (true≢false (sym a));
  awaits_none = λ r a. absurd (true≢false (sym a));
  after_full = λ e. clash track.feed.owed.incomplete e none;
  after_eight = h.after_eight;
}

took_sync : (c : Content) (story : Story) (receiver n stamp : ℕ) (track : Track) (t : Told) → Linked c story receiver n n stamp track t → track.feed.owed.incomplete ≡ false → track.feed.owed.resumed ≡ false → GoesOn c story receiver n stamp track t Sync Took
took_sync c story receiver n stamp track t h none not_resumed = (
  record { made = (h.current, refl); within = here n; steady = none_between story track.feed.sub n; answer = record { fresh = λ m. h.current; rises = h.rises; past = omega arith; begins = λ m e. refl; full = λ r a. (refl, h.current, refl) }; after = tt },
  λ lives. full_linked c story receiver n stamp track t false _ _ h none (λ e. refl) (λ r s. or_other track.feed.owed.resumed track.feed.owed.terminated not_resumed (h.held s)),
)

took_periodic : (c : Content) (story : Story) (receiver n stamp : ℕ) (track : Track) (t : Told) → Linked c story receiver n n stamp track t → track.feed.owed.incomplete ≡ false → GoesOn c story receiver n stamp track t Periodic Took
took_periodic c story receiver n stamp track t h none = (
  record { made = (h.current, refl); within = here n; steady = none_between story track.feed.sub n; answer = record { fresh = λ m. h.current; rises = h.rises; past = omega arith; begins = λ m e. refl; full = λ r a. (refl, h.current, refl) }; after = tt },
  λ lives. full_linked c story receiver n stamp track t track.feed.owed.sync _ _ h none h.plain h.held_sync,
)

-- ---- updates of changes

took_changes : (c : Content) (story : Story) (leads : Leads c story) (receiver n stamp : ℕ) (track : Track) (t : Told) → Linked c story receiver n n stamp track t
    → track.feed.owed.incomplete ≡ false → (track.feed.owed.sync || track.feed.owed.terminated) ≡ false → is_on_change track.feed.trigger ≡ true → GoesOn c story receiver n stamp track t Changes Took
took_changes c story leads receiver n stamp track t h none quiet on = (
  record {
    made = window_told c story receiver n n stamp track t h;
    within = (h.base, omega arith);
    steady = h.steady quiet;
    answer = record {
      fresh = record_fresh c story leads receiver n n stamp track t h on quiet;
      rises = h.rises;
      past = omega arith;
      begins = λ m e. absurd (none-some track.feed.base (sym e ∙ h.last m on quiet));
      full = λ r a. clash (track.feed.owed.sync || track.feed.owed.terminated) (h.awaits r a) quiet;
    };
    after = tt;
  },
  λ lives. record {
    mine = h.mine;
    mirrored = h.mirrored;
    resyncing = h.resyncing;
    current = h.current;
    first = h.current;
    window = tt;
    base = omega arith;
    last = λ m on still. refl;
    copy = record_fresh c story leads receiver n n stamp track t h on quiet;
    rises = omega arith;
    steady = λ still. none_between story track.feed.sub n;
    frozen = no_frozen c story track.feed.sub n n track.feed.owed.sync track.feed.owed.terminated (c.received t.rows (record_in c track)) (Some n) track.feed.owed.incomplete track.frozen none;
    plain = h.plain;
    tries = refl;
    last_full = h.last_full;
    stamps = h.stamps;
    counted = λ x. no_full x;
    eight = λ e. eight_no e;
    held = h.held;
    held_sync = h.held_sync;
    held_none = h.held_none;
    awaits = h.awaits;
    awaits_none = h.awaits_none;
    after_full = λ e. clash track.feed.owed.incomplete e none;
    after_eight = h.after_eight;
  },
)

took_frozen : (c : Content) (story : Story) (receiver n stamp : ℕ) (track : Track) (t : Told) (frozen : Frozen) → Linked c story receiver n n stamp track t
    → IsFrozen c story track.feed.sub n n track.feed.owed.sync track.feed.owed.terminated t.rows t.last frozen → track.feed.owed.incomplete ≡ true → GoesOn c story receiver n stamp (record track { frozen = Some frozen }) t Incomplete Took
took_frozen c story receiver n stamp track t frozen h is there = (
  record {
    made = is.made;
    within = (is.begins, is.past);
    steady = is.steady;
    answer = record { fresh = is.leads; rises = is.rises; past = is.past; begins = λ m e. absurd (none-some frozen.from (sym e ∙ is.from m)); full = λ r a. clash track.feed.owed.incomplete there (h.awaits_none r a) };
    after = h.after_full there;
  },
  λ lives. record {
    mine = h.mine;
    mirrored = h.mirrored;
    resyncing = h.resyncing;
    current = moved_current (not (resyncs track.feed.trigger)) track.first track.later ∙ h.current;
    first = moved_first (not (resyncs track.feed.trigger)) track.first track.later (story.want track.feed.sub) track.feed.base n h.first h.current;
    window = moved_window story track.feed.sub (not (resyncs track.feed.trigger)) track.feed.base n track.later h.window;
    base = moved_base (not (resyncs track.feed.trigger)) track.feed.base n h.base;
    last = λ m on quiet. clash (track.feed.owed.sync || track.feed.owed.terminated) (or_left track.feed.owed.sync track.feed.owed.terminated (is.syncs (resyncing_if c story receiver n n stamp track t h m))) quiet;
    copy = is.leads;
    rises = is.past;
    steady = λ quiet. moved_steady story track.feed.sub (not (resyncs track.feed.trigger)) track.feed.base n (h.steady quiet);
    frozen = tt;
    plain = h.plain;
    tries = refl;
    last_full = h.last_full;
    stamps = h.stamps;
    counted = λ x. no_full x;
    eight = λ e. eight_no e;
    held = h.held;
    held_sync = h.held_sync;
    held_none = λ s. refl;
    awaits = λ r a. or_left track.feed.owed.sync track.feed.owed.terminated (is.syncs r);
    awaits_none = λ r a. refl;
    after_full = λ e. absurd (true≢false (sym e));
    after_eight = h.after_eight;
  },
)

took_incomplete : (c : Content) (story : Story) (receiver n stamp : ℕ) (track : Track) (t : Told) → Linked c story receiver n n stamp track t → track.feed.owed.incomplete ≡ true → GoesOn c story receiver n stamp track t Incomplete Took
took_incomplete c story receiver n stamp track t h there =
    let frozen = frozen_is c story track.feed.sub n n track.feed.owed.sync track.feed.owed.terminated t.rows t.last track.feed.owed.incomplete track.frozen h.frozen there in
    subst (λ (o : Option Frozen). GoesOn c story receiver n stamp (record track { frozen = o }) t Incomplete Took) (sym frozen.1) (took_frozen c story receiver n stamp track t frozen.0 h frozen.2 there)

pub took : (c : Content) (story : Story) (leads : Leads c story) (receiver n stamp : ℕ) (track : Track) (t : Told) (item : Item) → Linked c story receiver n n stamp track t → Offered track.feed item → GoesOn c story receiver n stamp track t item Took
took c story leads receiver n stamp track t Started h o = took_started c story receiver n stamp track t h
took c story leads receiver n stamp track t Modified h o = took_modified c story receiver n stamp track t h
took c story leads receiver n stamp track t Incomplete h o = took_incomplete c story receiver n stamp track t h o
took c story leads receiver n stamp track t Suspended h o = took_suspended c story receiver n stamp track t h o.1
took c story leads receiver n stamp track t Resumed h o = took_resumed c story receiver n stamp track t h o.0 o.1
took c story leads receiver n stamp track t Sync h o = took_sync c story receiver n stamp track t h o.0 o.1
took c story leads receiver n stamp track t Terminated h o = took_terminated c story receiver n stamp track t h
took c story leads receiver n stamp track t Changes h o = took_changes c story leads receiver n stamp track t h o.0 o.1 o.2
took c story leads receiver n stamp track t Periodic h o = took_periodic c story receiver n stamp track t h o.0
