-- A track stays linked where its offer meets a full queue and where its record is set aside, and the attempt follows.
use Rattle.std.proofs.Common.{◌≡◌, ℕ, ◌+◌, min, refl, sym, ap, subst, ◌∙◌, Bool, true, false, not, ◌&&◌, ◌||◌, List, Option, Some, None, arith}
use Rattle.std.specs.Prelude.{if◌then◌else◌, nat_lt, nat_le, ◌==◌}
use Rattle.std.proofs.lemmas.Bool.{true≢false, and_parts, or_parts, or_left, or_right, not-true}
use Rattle.yp_base.specs.declared.row.Row.{Row}
use Rattle.yp_feed.specs.declared.item.Item.{Item}
use Rattle.yp_feed.specs.declared.item.Item.TheVariants.{Started, Modified, Incomplete, Suspended, Resumed, Sync, Terminated, Changes, Periodic}
use Rattle.yp_feed.specs.Machine.{resyncs, is_on_change, is_at, counted, suspends, suspended, after_count, freezes, frozen}
use Rattle.yp_attempt.specs.Content.{Content}
use Rattle.yp_attempt.specs.Tracks.{Track, Frozen, Answer, Took, Full, item_made, made_frozen, offered_item, record_in, roots_in, with_feed, freeze_tried}
use Rattle.yp_mirror.specs.Heard.{Told, after_full}
use Rattle.yp_mirror.specs.Stories.{Story, Steady, Leads}
use Rattle.yp_mirror.specs.Links.{FrozenFits, Linked}
use Rattle.yp_mirror.proofs.Facts.{clash, by_either, none_between, not_at, more_tries, full_eight, eight_fulls, some_full}
use Rattle.yp_mirror.proofs.Links.{GoesOn, resyncing_if, keep_frozen, ends_none, window_told, record_fresh, item_told, comes_after}
use Rattle.yp_mirror.proofs.Offering.{Offered, offered}
use Rattle.yp_mirror.proofs.Taking.{took}

-- ---- whether the record is set aside

-- what the rule for it tells of a feed
record MayFreeze (on tries incomplete suspended resumed sync terminated : Bool) : Type 0 where
  pub changes : on ≡ true
  pub full : tries ≡ true
  pub none : incomplete ≡ false
  pub runs : resumed ≡ false
  pub synced : sync ≡ false
  pub lives : terminated ≡ false

freeze_flags : (on tries roots incomplete suspended resumed sync terminated : Bool) → (on && (tries && (roots && not (incomplete || (suspended || (resumed || (sync || terminated))))))) ≡ true → MayFreeze on tries incomplete suspended resumed sync terminated
freeze_flags on tries roots incomplete suspended resumed sync terminated e =
    let a = and_parts on _ e in
    let b = and_parts tries _ a.1 in
    let d = and_parts roots _ b.1 in
    let g = or_parts incomplete _ (not-true _ d.1) in
    let i = or_parts suspended _ g.1 in
    let j = or_parts resumed _ i.1 in
    let k = or_parts sync terminated j.1 in
    record { changes = a.0; full = b.0; none = g.0; runs = j.0; synced = k.0; lives = k.1 }

-- the track after it was tried, by the rule's answer
abbrev tried_by : Content → ℕ → ℕ → Track → Bool → Track
tried_by c n stamp track b = record track {
  feed = if b then frozen track.feed else track.feed;
  frozen = if b then Some (record { from = track.feed.base; position = n; tick = stamp; edits = record_in c track }) else track.frozen;
}

tried_linked : (c : Content) (story : Story) (leads : Leads c story) (receiver n stamp : ℕ) (track : Track) (t : Told) (b : Bool) → freezes track.feed (roots_in c track) ≡ b → Linked c story receiver n n stamp track t → Linked c story receiver n n stamp (tried_by c n stamp track b) t
tried_linked c story leads receiver n stamp track t false e h = h
tried_linked c story leads receiver n stamp track t true e h =
    let may = freeze_flags (is_on_change track.feed.trigger) (nat_lt 0 track.feed.tries) (nat_lt 256 (roots_in c track)) track.feed.owed.incomplete track.feed.owed.suspended track.feed.owed.resumed track.feed.owed.sync track.feed.owed.terminated e in
    let quiet : (track.feed.owed.sync || track.feed.owed.terminated) ≡ false = ap (λ (x : Bool). x || track.feed.owed.terminated) may.synced ∙ may.lives in
    let free : (track.feed.owed.resumed || track.feed.owed.terminated) ≡ false = ap (λ (x : Bool). x || track.feed.owed.terminated) may.runs ∙ may.lives in
    let syncs : story.resyncing track.feed.sub ≡ true → resyncs track.feed.trigger ≡ true = (λ r. sym h.resyncing ∙ r) in
    record {
      mine = h.mine;
      mirrored = h.mirrored;
      resyncing = h.resyncing;
      current = h.current;
      first = h.first;
      window = h.window;
      base = h.base;
      last = λ m on still. h.last m may.changes quiet;
      copy = h.copy;
      rises = h.rises;
      steady = λ still. h.steady quiet;
      frozen = record {
        made = window_told c story receiver n n stamp track t h;
        begins = h.base;
        past = omega arith;
        rises = h.rises;
        from = λ m. h.last m may.changes quiet;
        leads = record_fresh c story leads receiver n n stamp track t h may.changes quiet;
        steady = h.steady quiet;
        syncs = syncs;
        lives = may.lives;
      };
      plain = λ r. r;
      tries = h.tries;
      last_full = h.last_full;
      stamps = h.stamps;
      counted = h.counted;
      eight = h.eight;
      held = h.held;
      held_sync = λ r s. or_left (resyncs track.feed.trigger) track.feed.owed.terminated (syncs r);
      held_none = λ s. clash (track.feed.owed.resumed || track.feed.owed.terminated) (h.held s) free;
      awaits = λ r a. or_left (resyncs track.feed.trigger) track.feed.owed.terminated (syncs r);
      awaits_none = λ r a. clash (track.feed.owed.sync || track.feed.owed.terminated) (h.awaits r a) quiet;
      after_full = λ x. h.counted (some_full track.feed.tries t.fulls h.tries may.full);
      after_eight = h.after_eight;
    }

pub tries_freezing : (c : Content) (story : Story) (leads : Leads c story) (receiver n stamp : ℕ) (track : Track) (t : Told) → Linked c story receiver n n stamp track t → Linked c story receiver n n stamp (freeze_tried c n stamp track) t
tries_freezing c story leads receiver n stamp track t h = tried_linked c story leads receiver n stamp track t (freezes track.feed (roots_in c track)) refl h

-- ---- a full queue

steady_frozen : (c : Content) (story : Story) (sub n : ℕ) (sync terminated : Bool) (rows : List Row) (last : Option ℕ) (stamp : ℕ) (b : Bool) (o : Option Frozen) → FrozenFits c story sub n n sync terminated rows last b o → b ≡ true → Steady story sub (made_frozen o n stamp).from n
steady_frozen c story sub n sync terminated rows last stamp true (Some frozen) h e = h.steady
steady_frozen c story sub n sync terminated rows last stamp true None h e = absurd h
steady_frozen c story sub n sync terminated rows last stamp false o h e = absurd (true≢false (sym e))

made_steady : (c : Content) (story : Story) (receiver n stamp : ℕ) (track : Track) (t : Told) (item : Item) → Linked c story receiver n n stamp track t → Offered track.feed item → Steady story track.feed.sub (item_made c track item n stamp).from n
made_steady c story receiver n stamp track t Started h o = none_between story track.feed.sub n
made_steady c story receiver n stamp track t Modified h o = none_between story track.feed.sub n
made_steady c story receiver n stamp track t Incomplete h o = steady_frozen c story track.feed.sub n track.feed.owed.sync track.feed.owed.terminated t.rows t.last stamp track.feed.owed.incomplete track.frozen h.frozen o
made_steady c story receiver n stamp track t Suspended h o = none_between story track.feed.sub n
made_steady c story receiver n stamp track t Resumed h o = none_between story track.feed.sub n
made_steady c story receiver n stamp track t Sync h o = none_between story track.feed.sub n
made_steady c story receiver n stamp track t Terminated h o = none_between story track.feed.sub n
made_steady c story receiver n stamp track t Changes h o = h.steady o.1
made_steady c story receiver n stamp track t Periodic h o = none_between story track.feed.sub n

not_suspending : (x : ℕ) (s t : Bool) → ((x == 8) && (not s && not t)) ≡ false → x ≡ 8 → (s || t) ≡ true
not_suspending x true t e q = refl
not_suspending x false true e q = refl
not_suspending x false false e q = absurd (true≢false (subst (λ (y : ℕ). ((y == 8) && true) ≡ false) q e))

refused_linked : (c : Content) (story : Story) (receiver n stamp : ℕ) (track : Track) (t : Told) (item : Item) (b : Bool) → suspends (counted track.feed item stamp) ≡ b → Linked c story receiver n n stamp track t
    → Linked c story receiver n n stamp (with_feed track (if b then suspended (counted track.feed item stamp) else counted track.feed item stamp) false) (after_full t stamp)
refused_linked c story receiver n stamp track t item true e h =
    let syncs : story.resyncing track.feed.sub ≡ true → (resyncs track.feed.trigger || false) ≡ true = (λ r. or_left (resyncs track.feed.trigger) false (sym h.resyncing ∙ r)) in
    let q = and_parts (min 8 (track.feed.tries + 1) == 8) _ e in
    let lives : track.feed.owed.terminated ≡ false = not-true track.feed.owed.terminated (and_parts (not track.feed.suspended) _ q.1).1 in
    record {
      mine = h.mine;
      mirrored = h.mirrored;
      resyncing = h.resyncing;
      current = h.current;
      first = h.first;
      window = h.window;
      base = h.base;
      last = λ m on quiet. clash (resyncs track.feed.trigger || false) (syncs (resyncing_if c story receiver n n stamp track t h m)) quiet;
      copy = h.copy;
      rises = h.rises;
      steady = λ quiet. h.steady (ap (λ (x : Bool). x || track.feed.owed.terminated) (h.plain (or_parts (resyncs track.feed.trigger) false quiet).0) ∙ lives);
      frozen = tt;
      plain = λ r. r;
      tries = more_tries track.feed.tries t.fulls h.tries;
      last_full = refl;
      stamps = omega arith;
      counted = λ x. refl;
      eight = λ x. refl;
      held = λ s. refl;
      held_sync = λ r s. syncs r;
      held_none = λ s. refl;
      awaits = λ r a. syncs r;
      awaits_none = λ r a. refl;
      after_full = λ x. refl;
      after_eight = λ x. or_right t.met_eight (nat_le 8 (t.fulls + 1)) (eight_fulls track.feed.tries t.fulls h.tries q.0);
    }
refused_linked c story receiver n stamp track t item false e h =
    let eight : min 8 (track.feed.tries + 1) ≡ 8 → (track.feed.suspended || track.feed.owed.terminated) ≡ true = not_suspending (min 8 (track.feed.tries + 1)) track.feed.suspended track.feed.owed.terminated e in
    let ends : track.feed.owed.terminated ≡ true → track.feed.owed.incomplete ≡ false = ends_none c story track.feed.sub n n track.feed.owed.sync track.feed.owed.terminated t.rows t.last track.feed.owed.incomplete track.frozen h.frozen in
    record {
      mine = h.mine;
      mirrored = h.mirrored;
      resyncing = h.resyncing;
      current = h.current;
      first = h.first;
      window = h.window;
      base = h.base;
      last = h.last;
      copy = h.copy;
      rises = h.rises;
      steady = h.steady;
      frozen = keep_frozen c story track.feed.sub n n track.feed.owed.sync track.feed.owed.terminated t.rows t.last track.feed.owed.incomplete track.frozen h.frozen;
      plain = h.plain;
      tries = more_tries track.feed.tries t.fulls h.tries;
      last_full = refl;
      stamps = omega arith;
      counted = λ x. refl;
      eight = eight;
      held = h.held;
      held_sync = h.held_sync;
      held_none = h.held_none;
      awaits = λ r a. by_either t.awaits (nat_le 8 (t.fulls + 1)) a (h.awaits r)
          (λ le. by_either track.feed.suspended track.feed.owed.terminated (eight (full_eight track.feed.tries t.fulls h.tries le)) (h.held_sync r) (or_right track.feed.owed.sync track.feed.owed.terminated));
      awaits_none = λ r a. by_either t.awaits (nat_le 8 (t.fulls + 1)) a (h.awaits_none r)
          (λ le. by_either track.feed.suspended track.feed.owed.terminated (eight (full_eight track.feed.tries t.fulls h.tries le)) h.held_none ends);
      after_full = λ x. refl;
      after_eight = λ x. or_left t.met_eight (nat_le 8 (t.fulls + 1)) (h.after_eight x);
    }

full_goes_on : (c : Content) (story : Story) (leads : Leads c story) (receiver n stamp : ℕ) (track : Track) (t : Told) (item : Item) → Linked c story receiver n n stamp track t → is_at track.feed.last_full stamp ≡ false → Offered track.feed item → GoesOn c story receiver n stamp track t item Full
full_goes_on c story leads receiver n stamp track t item h free o = let told = item_told c story receiver n n stamp track t item h o in (
  record { made = told.0; within = told.1; steady = made_steady c story receiver n stamp track t item h o; answer = not_at t.last_full stamp (ap (λ (x : Option ℕ). is_at x stamp) (sym h.last_full) ∙ free) h.stamps; after = comes_after c story receiver n n stamp track t item h o },
  λ lives. tries_freezing c story leads receiver n stamp (with_feed track (after_count (counted track.feed item stamp)) false) (after_full t stamp) (refused_linked c story receiver n stamp track t item (suspends (counted track.feed item stamp)) refl h),
)

-- whichever answer comes
pub answer_goes_on : (c : Content) (story : Story) (leads : Leads c story) (receiver n stamp : ℕ) (track : Track) (t : Told) (item : Item) (answer : Answer) → Linked c story receiver n n stamp track t → offered_item c stamp track ≡ Some item → GoesOn c story receiver n stamp track t item answer
answer_goes_on c story leads receiver n stamp track t item Took h e = took c story leads receiver n stamp track t item h (offered track.feed _ _ stamp item e).1
answer_goes_on c story leads receiver n stamp track t item Full h e = let o = offered track.feed _ _ stamp item e in full_goes_on c story leads receiver n stamp track t item h o.0 o.1
