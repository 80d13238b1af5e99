-- A track stays linked over an entry, and a new one is linked.
use Rattle.std.proofs.Common.{◌≡◌, ℕ, ◌+◌, ◌≤◌, refl, sym, ap, ◌∙◌, Bool, true, false, not, ◌&&◌, ◌||◌, List, Option, Some, None, arith}
use Rattle.std.specs.Prelude.{if◌then◌else◌, ◌==◌}
use Rattle.std.proofs.lemmas.Bool.{true≢false, and_right, or_left, or_right}
use Rattle.yp_base.specs.declared.row.Row.{Row}
use Rattle.yp_base.specs.declared.notice.Trigger.{Trigger}
use Rattle.yp_base.specs.declared.notice.Trigger.TheVariants.{Periodic as Every, OnChange}
use Rattle.yp_base.specs.RowLaws.{last_more}
use Rattle.yp_feed.specs.declared.item.Control.{Control}
use Rattle.yp_feed.specs.declared.item.Control.TheVariants.{Modify, Resync, Rules, End}
use Rattle.yp_feed.specs.Machine.{resyncs, is_mirrored, is_on_change, amended, restarted, with_terms, ending}
use Rattle.yp_attempt.specs.Content.{Content}
use Rattle.yp_attempt.specs.Tracks.{Track, Frozen, with_feed}
use Rattle.yp_attempt.specs.Moments.{Moment, Act, Quiet, Starts, Controls, Drops, with_selection, with_control, after_act, after_rules, after_moment, new_track}
use Rattle.yp_attempt.specs.TrackLaws.{act_same}
use Rattle.yp_mirror.specs.Heard.{Told, told_nothing}
use Rattle.yp_mirror.specs.Stories.{Story, Steady, Leads, TellsEntry, is_control_of}
use Rattle.yp_mirror.specs.Links.{FrozenFits, Linked}
use Rattle.yp_mirror.proofs.Facts.{clash, eight_no, none_between, at_most_later, moved_current, moved_first, moved_window, wanted_more, moved_base, no_full}
use Rattle.yp_mirror.proofs.Links.{mirrored_resyncs, resyncing_if, no_frozen, ends_none}
use Rattle.yp_mirror.proofs.Refusing.{tries_freezing}

-- ---- the selection after an entry

frozen_later : (c : Content) (story : Story) (sub n k : ℕ) (sync terminated : Bool) (rows : List Row) (last : Option ℕ) (b : Bool) (o : Option Frozen) → FrozenFits c story sub n k sync terminated rows last b o → FrozenFits c story sub (n + 1) k sync terminated rows last b o
frozen_later c story sub n k sync terminated rows last true (Some frozen) h = record { made = h.made; begins = h.begins; past = omega (arith, h.past); rises = h.rises; from = h.from; leads = h.leads; steady = h.steady; syncs = h.syncs; lives = h.lives }
frozen_later c story sub n k sync terminated rows last true None h = h
frozen_later c story sub n k sync terminated rows last false (Some frozen) h = h
frozen_later c story sub n k sync terminated rows last false None h = h

selection_linked : (c : Content) (story : Story) (receiver n k stamp : ℕ) (track : Track) (t : Told) (m : Moment) → Linked c story receiver n k stamp track t → TellsEntry story receiver (n + 1) m → stamp ≤ m.stamp → Linked c story receiver (n + 1) k m.stamp (with_selection m track) t
selection_linked c story receiver n k stamp track t m h tells later = record {
  mine = h.mine;
  mirrored = h.mirrored;
  resyncing = h.resyncing;
  current = last_more track.first track.later (m.selection track.feed.sub track.feed.receiver) ∙ (ap (λ (r : ℕ). m.selection track.feed.sub r) h.mine ∙ tells.selection track.feed.sub);
  first = h.first;
  window = wanted_more story track.feed.sub track.feed.base n track.later (m.selection track.feed.sub track.feed.receiver) h.base (ap (λ (r : ℕ). m.selection track.feed.sub r) h.mine ∙ tells.selection track.feed.sub) h.window;
  base = omega (arith, h.base);
  last = h.last;
  copy = h.copy;
  rises = at_most_later t.last n (n + 1) (omega arith) h.rises;
  steady = h.steady;
  frozen = frozen_later c story track.feed.sub n k track.feed.owed.sync track.feed.owed.terminated t.rows t.last track.feed.owed.incomplete track.frozen h.frozen;
  plain = h.plain;
  tries = h.tries;
  last_full = h.last_full;
  stamps = at_most_later t.last_full stamp m.stamp later h.stamps;
  counted = h.counted;
  eight = h.eight;
  held = h.held;
  held_sync = h.held_sync;
  held_none = h.held_none;
  awaits = h.awaits;
  awaits_none = h.awaits_none;
  after_full = h.after_full;
  after_eight = h.after_eight;
}

more_steady : (story : Story) (sub a n : ℕ) → Steady story sub a n → story.changes sub (n + 1) ≡ false → Steady story sub a (n + 1)
more_steady story sub a n h e k below above = by (k == n + 1) refl
  where
    by : (b : Bool) → (k == n + 1) ≡ b → story.changes sub k ≡ false
    by true q = let same : k ≡ n + 1 = grind (arith, q) in ap (λ (x : ℕ). story.changes sub x) same ∙ e
    by false q = let less : k ≤ n = grind (arith, q, above) in h k below less

frozen_steady : (c : Content) (story : Story) (sub n : ℕ) (sync terminated : Bool) (rows : List Row) (last : Option ℕ) (b : Bool) (o : Option Frozen) → story.changes sub (n + 1) ≡ false → FrozenFits c story sub (n + 1) n sync terminated rows last b o → FrozenFits c story sub (n + 1) (n + 1) sync terminated rows last b o
frozen_steady c story sub n sync terminated rows last true (Some frozen) e h = record { made = h.made; begins = h.begins; past = h.past; rises = h.rises; from = h.from; leads = h.leads; steady = more_steady story sub frozen.from n h.steady e; syncs = h.syncs; lives = h.lives }
frozen_steady c story sub n sync terminated rows last true None e h = h
frozen_steady c story sub n sync terminated rows last false (Some frozen) e h = h
frozen_steady c story sub n sync terminated rows last false None e h = h

-- where nothing changed
quiet_linked : (c : Content) (story : Story) (receiver n stamp : ℕ) (track : Track) (t : Told) → story.changes track.feed.sub (n + 1) ≡ false → Linked c story receiver (n + 1) n stamp track t → Linked c story receiver (n + 1) (n + 1) stamp track t
quiet_linked c story receiver n stamp track t e h = record {
  mine = h.mine;
  mirrored = h.mirrored;
  resyncing = h.resyncing;
  current = h.current;
  first = h.first;
  window = h.window;
  base = h.base;
  last = h.last;
  copy = h.copy;
  rises = h.rises;
  steady = λ quiet. more_steady story track.feed.sub track.feed.base n (h.steady quiet) e;
  frozen = frozen_steady c story track.feed.sub n track.feed.owed.sync track.feed.owed.terminated t.rows t.last track.feed.owed.incomplete track.frozen e h.frozen;
  plain = h.plain;
  tries = h.tries;
  last_full = h.last_full;
  stamps = h.stamps;
  counted = h.counted;
  eight = h.eight;
  held = h.held;
  held_sync = h.held_sync;
  held_none = h.held_none;
  awaits = h.awaits;
  awaits_none = h.awaits_none;
  after_full = h.after_full;
  after_eight = h.after_eight;
}

-- ---- what happens to a feed

restart_steady : (story : Story) (sub : ℕ) (sync again terminated : Bool) (base n : ℕ) → ((sync || again) || terminated) ≡ false → Steady story sub (if not again then n else base) n
restart_steady story sub sync true terminated base n e = clash ((sync || true) || terminated) (or_left (sync || true) terminated (or_right sync true refl)) e
restart_steady story sub sync false terminated base n e = none_between story sub n

restart_plain : (sync again : Bool) → (again ≡ false → sync ≡ false) → again ≡ false → (sync || again) ≡ false
restart_plain sync again p e = ap (λ (x : Bool). x || again) (p e) ∙ e

restart_linked : (c : Content) (story : Story) (receiver n k stamp : ℕ) (track : Track) (t : Told) → Linked c story receiver n k stamp track t → Linked c story receiver n n stamp (with_feed track (restarted track.feed n) (not (resyncs track.feed.trigger))) t
restart_linked c story receiver n k stamp track t h =
    let syncs : story.resyncing track.feed.sub ≡ true → ((track.feed.owed.sync || resyncs track.feed.trigger) || track.feed.owed.terminated) ≡ true =
    (λ r. or_left (track.feed.owed.sync || resyncs track.feed.trigger) track.feed.owed.terminated (or_right track.feed.owed.sync (resyncs track.feed.trigger) (sym h.resyncing ∙ r))) in
    record {
      mine = h.mine;
      mirrored = h.mirrored;
      resyncing = h.resyncing;
      current = moved_current (not (resyncs track.feed.trigger)) track.first track.later ∙ h.current;
      first = moved_first (not (resyncs track.feed.trigger)) track.first track.later (story.want track.feed.sub) track.feed.base n h.first h.current;
      window = moved_window story track.feed.sub (not (resyncs track.feed.trigger)) track.feed.base n track.later h.window;
      base = moved_base (not (resyncs track.feed.trigger)) track.feed.base n h.base;
      last = λ m on quiet. clash ((track.feed.owed.sync || resyncs track.feed.trigger) || track.feed.owed.terminated) (syncs (resyncing_if c story receiver n k stamp track t h m)) quiet;
      copy = h.copy;
      rises = h.rises;
      steady = restart_steady story track.feed.sub track.feed.owed.sync (resyncs track.feed.trigger) track.feed.owed.terminated track.feed.base n;
      frozen = tt;
      plain = restart_plain track.feed.owed.sync (resyncs track.feed.trigger) h.plain;
      tries = h.tries;
      last_full = h.last_full;
      stamps = h.stamps;
      counted = h.counted;
      eight = h.eight;
      held = h.held;
      held_sync = λ r s. syncs r;
      held_none = λ s. refl;
      awaits = λ r a. syncs r;
      awaits_none = λ r a. refl;
      after_full = λ e. absurd (true≢false (sym e));
      after_eight = h.after_eight;
    }

amended_same : (old new : Trigger) → (is_mirrored (amended old new) ≡ is_mirrored old) × (resyncs (amended old new) ≡ resyncs old) × (is_on_change (amended old new) ≡ is_on_change old)
amended_same (Every period anchor) (Every new_period new_anchor) = (refl, refl, refl)
amended_same (Every period anchor) (OnChange dampening sync excluded) = (refl, refl, refl)
amended_same (OnChange dampening sync excluded) (Every period anchor) = (refl, refl, refl)
amended_same (OnChange dampening sync excluded) (OnChange new_dampening new_sync new_excluded) = (refl, refl, refl)

terms_linked : (c : Content) (story : Story) (receiver n k stamp : ℕ) (track : Track) (t : Told) (trigger : Trigger) (notify : Bool) → Linked c story receiver n k stamp track t → Linked c story receiver n k stamp (record track { feed = with_terms track.feed trigger notify stamp }) t
terms_linked c story receiver n k stamp track t trigger notify h =
    let same = amended_same track.feed.trigger trigger in
    record {
      mine = h.mine;
      mirrored = h.mirrored ∙ sym same.0;
      resyncing = h.resyncing ∙ sym same.1;
      current = h.current;
      first = h.first;
      window = h.window;
      base = h.base;
      last = λ m on quiet. h.last m (sym same.2 ∙ on) quiet;
      copy = h.copy;
      rises = h.rises;
      steady = h.steady;
      frozen = h.frozen;
      plain = λ r. h.plain (sym same.1 ∙ r);
      tries = h.tries;
      last_full = h.last_full;
      stamps = h.stamps;
      counted = h.counted;
      eight = h.eight;
      held = h.held;
      held_sync = h.held_sync;
      held_none = h.held_none;
      awaits = h.awaits;
      awaits_none = h.awaits_none;
      after_full = h.after_full;
      after_eight = h.after_eight;
    }

end_linked : (c : Content) (story : Story) (receiver n k stamp : ℕ) (track : Track) (t : Told) → Linked c story receiver n k stamp track t → Linked c story receiver n n stamp (with_feed track (ending track.feed) false) t
end_linked c story receiver n k stamp track t h = record {
  mine = h.mine;
  mirrored = h.mirrored;
  resyncing = h.resyncing;
  current = h.current;
  first = h.first;
  window = h.window;
  base = h.base;
  last = λ m on quiet. absurd (true≢false quiet);
  copy = h.copy;
  rises = h.rises;
  steady = λ quiet. absurd (true≢false quiet);
  frozen = tt;
  plain = λ r. refl;
  tries = h.tries;
  last_full = h.last_full;
  stamps = h.stamps;
  counted = h.counted;
  eight = λ e. or_right track.feed.suspended true refl;
  held = λ s. refl;
  held_sync = λ r s. refl;
  held_none = λ s. refl;
  awaits = λ r a. refl;
  awaits_none = λ r a. refl;
  after_full = λ e. absurd (true≢false (sym e));
  after_eight = λ e. absurd (true≢false (sym e));
}

-- a feed that ends is left as it is
ended_linked : (c : Content) (story : Story) (receiver n k stamp : ℕ) (track : Track) (t : Told) → track.feed.owed.terminated ≡ true → Linked c story receiver n k stamp track t → Linked c story receiver n n stamp (with_feed track track.feed false) t
ended_linked c story receiver n k stamp track t e h = record {
  mine = h.mine;
  mirrored = h.mirrored;
  resyncing = h.resyncing;
  current = h.current;
  first = h.first;
  window = h.window;
  base = h.base;
  last = h.last;
  copy = h.copy;
  rises = h.rises;
  steady = λ quiet. clash (track.feed.owed.sync || track.feed.owed.terminated) (or_right track.feed.owed.sync track.feed.owed.terminated e) quiet;
  frozen = no_frozen c story track.feed.sub n n track.feed.owed.sync track.feed.owed.terminated t.rows t.last track.feed.owed.incomplete track.frozen (ends_none c story track.feed.sub n k track.feed.owed.sync track.feed.owed.terminated t.rows t.last track.feed.owed.incomplete track.frozen h.frozen e);
  plain = h.plain;
  tries = h.tries;
  last_full = h.last_full;
  stamps = h.stamps;
  counted = h.counted;
  eight = h.eight;
  held = h.held;
  held_sync = h.held_sync;
  held_none = h.held_none;
  awaits = h.awaits;
  awaits_none = h.awaits_none;
  after_full = h.after_full;
  after_eight = h.after_eight;
}

own_rules_linked : (c : Content) (story : Story) (receiver n k stamp : ℕ) (track : Track) (t : Told) (b : Bool) → track.feed.owed.terminated ≡ b → Linked c story receiver n k stamp track t
    → Linked c story receiver n n stamp (with_feed track (if b then track.feed else restarted track.feed n) (not b && not (resyncs track.feed.trigger))) t
own_rules_linked c story receiver n k stamp track t true e h = ended_linked c story receiver n k stamp track t e h
own_rules_linked c story receiver n k stamp track t false e h = restart_linked c story receiver n k stamp track t h

control_linked : (c : Content) (story : Story) (receiver n k stamp : ℕ) (track : Track) (t : Told) (control : Control) → Linked c story receiver n k stamp track t → Linked c story receiver n n stamp (with_control n stamp control track) t
control_linked c story receiver n k stamp track t (Modify trigger notify) h = restart_linked c story receiver n k stamp (record track { feed = with_terms track.feed trigger notify stamp }) t (terms_linked c story receiver n k stamp track t trigger notify h)
control_linked c story receiver n k stamp track t Resync h = restart_linked c story receiver n k stamp track t h
control_linked c story receiver n k stamp track t Rules h = own_rules_linked c story receiver n k stamp track t track.feed.owed.terminated refl h
control_linked c story receiver n k stamp track t End h = end_linked c story receiver n k stamp track t h

-- ---- an entry

control_by : (c : Content) (story : Story) (receiver n k stamp : ℕ) (track : Track) (t : Told) (control : Control) (b : Bool) → Linked c story receiver n k stamp track t
    → (b ≡ true → Linked c story receiver n n stamp (if b then with_control n stamp control track else track) t) × (b ≡ false → Linked c story receiver n k stamp (if b then with_control n stamp control track else track) t)
control_by c story receiver n k stamp track t control true h = (λ e. control_linked c story receiver n k stamp track t control h, λ e. absurd (true≢false e))
control_by c story receiver n k stamp track t control false h = (λ e. absurd (true≢false (sym e)), λ e. h)

act_linked : (c : Content) (story : Story) (receiver n k stamp : ℕ) (track : Track) (t : Told) (act : Act) → Linked c story receiver n k stamp track t
    → (is_control_of track.feed.sub act ≡ true → Linked c story receiver n n stamp (after_act n stamp act track) t) × (is_control_of track.feed.sub act ≡ false → Linked c story receiver n k stamp (after_act n stamp act track) t)
act_linked c story receiver n k stamp track t Quiet h = (λ e. absurd (true≢false (sym e)), λ e. h)
act_linked c story receiver n k stamp track t (Starts sub trigger configured names) h = (λ e. absurd (true≢false (sym e)), λ e. h)
act_linked c story receiver n k stamp track t (Controls sub control) h = control_by c story receiver n k stamp track t control (track.feed.sub == sub) h
act_linked c story receiver n k stamp track t (Drops sub) h = (λ e. absurd (true≢false (sym e)), λ e. h)

-- an entry whose act may have been met, and then its rules
rules_linked : (c : Content) (story : Story) (receiver n stamp : ℕ) (track : Track) (t : Told) (b a : Bool) → story.changes track.feed.sub (n + 1) ≡ (a || b)
    → (a ≡ true → Linked c story receiver (n + 1) (n + 1) stamp track t) → (a ≡ false → Linked c story receiver (n + 1) n stamp track t)
    → Linked c story receiver (n + 1) (n + 1) stamp (if b then with_control (n + 1) stamp Rules track else track) t
rules_linked c story receiver n stamp track t true true e f g = control_linked c story receiver (n + 1) (n + 1) stamp track t Rules (f refl)
rules_linked c story receiver n stamp track t true false e f g = control_linked c story receiver (n + 1) n stamp track t Rules (g refl)
rules_linked c story receiver n stamp track t false true e f g = f refl
rules_linked c story receiver n stamp track t false false e f g = quiet_linked c story receiver n stamp track t e (g refl)

pub moment_linked : (c : Content) (story : Story) (leads : Leads c story) (receiver n stamp : ℕ) (track : Track) (t : Told) (m : Moment) → Linked c story receiver n n stamp track t → TellsEntry story receiver (n + 1) m → stamp ≤ m.stamp
    → Linked c story receiver (n + 1) (n + 1) m.stamp (after_moment c m (n + 1) track) t
moment_linked c story leads receiver n stamp track t m h tells later =
    let s = selection_linked c story receiver n n stamp track t m h tells later in
    let a = act_linked c story receiver (n + 1) n m.stamp (with_selection m track) t m.act s in
    let acted : Track = after_act (n + 1) m.stamp m.act (with_selection m track) in
    let same = act_same (n + 1) m.stamp m.act (with_selection m track) in
    let changes : story.changes acted.feed.sub (n + 1) ≡ (is_control_of track.feed.sub m.act || m.rules acted.feed.receiver) =
    ap (λ (x : ℕ). story.changes x (n + 1)) same.0 ∙ (tells.changes track.feed.sub ∙ ap (λ (x : ℕ). is_control_of track.feed.sub m.act || m.rules x) (sym (same.1 ∙ h.mine))) in
    tries_freezing c story leads receiver (n + 1) m.stamp (after_rules (n + 1) m acted) t (rules_linked c story receiver n m.stamp acted t (m.rules acted.feed.receiver) (is_control_of track.feed.sub m.act) changes a.0 a.1)

-- ---- a new track

pub new_linked : (c : Content) (story : Story) (receiver n sub : ℕ) (m : Moment) (trigger : Trigger) (configured : Bool) → m.selection sub receiver ≡ story.want sub n → story.mirrored sub ≡ is_mirrored trigger → story.resyncing sub ≡ resyncs trigger
    → Linked c story receiver n n m.stamp (new_track m n sub trigger configured receiver) told_nothing
new_linked c story receiver n sub m trigger configured selection mirrored resyncing = record {
  mine = refl;
  mirrored = mirrored;
  resyncing = resyncing;
  current = selection;
  first = selection;
  window = tt;
  base = omega arith;
  last = λ x on quiet. clash ((is_on_change trigger && resyncs trigger) || false) (or_left (is_on_change trigger && resyncs trigger) false (ap (λ (b : Bool). b && resyncs trigger) on ∙ mirrored_resyncs trigger (sym mirrored ∙ x))) quiet;
  copy = λ x. tt;
  rises = tt;
  steady = λ quiet. none_between story sub n;
  frozen = tt;
  plain = λ r. and_right (is_on_change trigger) (resyncs trigger) r;
  tries = refl;
  last_full = refl;
  stamps = tt;
  counted = λ x. no_full x;
  eight = λ e. eight_no e;
  held = λ s. absurd (true≢false (sym s));
  held_sync = λ r s. absurd (true≢false (sym s));
  held_none = λ s. refl;
  awaits = λ r a. absurd (true≢false (sym a));
  awaits_none = λ r a. refl;
  after_full = λ e. absurd (true≢false (sym e));
  after_eight = λ e. absurd (true≢false (sym e));
}
