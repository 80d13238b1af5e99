-- What full queues lead to: of a linked track, and among attempts.
use Rattle.std.proofs.Common.{◌≡◌, ℕ, ◌+◌, min, refl, sym, ap, ◌∙◌, Bool, true, false, not, ◌&&◌, ◌||◌, arith}
use Rattle.std.specs.Prelude.{if◌then◌else◌, ◌==◌, nat_lt, nat_le}
use Rattle.std.proofs.lemmas.Bool.{true≢false, and_parts}
use Rattle.yp_feed.specs.declared.item.Item.{Item}
use Rattle.yp_feed.specs.declared.item.Item.TheVariants.{Started, Modified, Incomplete, Suspended, Resumed, Sync, Terminated, Changes, Periodic}
use Rattle.yp_feed.specs.declared.item.Control.{Control}
use Rattle.yp_feed.specs.declared.item.Control.TheVariants.{Modify, Resync, Rules, End}
use Rattle.yp_feed.specs.Machine.{FeedState, freezes, frozen, after_freeze, controlled, restarted, without, is_resumed, counted, suspends, suspended, refused, is_on_change}
use Rattle.yp_attempt.specs.Content.{Content}
use Rattle.yp_attempt.specs.Tracks.{Track, Full, roots_in, after_answer, freeze_tried, with_feed}
use Rattle.yp_attempt.specs.Moments.{Moment, Act, Quiet, Starts, Controls, Drops, after_moment, with_selection, after_act, after_rules, with_control}
use Rattle.yp_mirror.specs.Heard.{Told}
use Rattle.yp_mirror.specs.Stories.{Story}
use Rattle.yp_mirror.specs.Links.{Linked}
use Rattle.yp_mirror.specs.FullQueues.{SuspendsAtEighth, FreezesAfterFull}
use Rattle.yp_mirror.proofs.Facts.{clash, some_full}

-- ---- what suspends a feed

if_suspended : (b : Bool) (f g : FeedState) → g.suspended ≡ f.suspended → (if b then g else f).suspended ≡ f.suspended
if_suspended true f g e = e
if_suspended false f g e = refl

if_track_suspended : (b : Bool) (track other : Track) → other.feed.suspended ≡ track.feed.suspended → (if b then other else track).feed.suspended ≡ track.feed.suspended
if_track_suspended true track other e = e
if_track_suspended false track other e = refl

freeze_keeps : (f : FeedState) (roots : ℕ) → (after_freeze f roots).suspended ≡ f.suspended
freeze_keeps f roots = if_suspended (freezes f roots) f (frozen f) refl

control_keeps : (f : FeedState) (control : Control) (n stamp : ℕ) → (controlled f control n stamp).suspended ≡ f.suspended
control_keeps f (Modify trigger notify) n stamp = refl
control_keeps f Resync n stamp = refl
control_keeps f Rules n stamp = by f.owed.terminated
  where
    by : (b : Bool) → (if b then f else restarted f n).suspended ≡ f.suspended
    by true = refl
    by false = refl
control_keeps f End n stamp = refl

act_keeps : (n stamp : ℕ) (act : Act) (track : Track) → (after_act n stamp act track).feed.suspended ≡ track.feed.suspended
act_keeps n stamp Quiet track = refl
act_keeps n stamp (Starts sub trigger configured names) track = refl
act_keeps n stamp (Controls sub control) track = if_track_suspended (track.feed.sub == sub) track (with_control n stamp control track) (control_keeps track.feed control n stamp)
act_keeps n stamp (Drops sub) track = refl

moment_keeps : (c : Content) (m : Moment) (n : ℕ) (track : Track) → (after_moment c m n track).feed.suspended ≡ track.feed.suspended
moment_keeps c m n track =
    let k : Track = after_act n m.stamp m.act (with_selection m track) in
    freeze_keeps (after_rules n m k).feed (roots_in c (after_rules n m k))
    ∙ (if_track_suspended (m.rules k.feed.receiver) k (with_control n m.stamp Rules k) (control_keeps k.feed Rules n m.stamp) ∙ act_keeps n m.stamp m.act (with_selection m track))

taken_keeps : (item : Item) (s : Bool) → (not (is_resumed item) && s) ≡ true → s ≡ true
taken_keeps item s e = (and_parts (not (is_resumed item)) s e).1

count_exactly : (f : FeedState) (b : Bool) → suspends f ≡ b → f.suspended ≡ false → (if b then suspended f else f).suspended ≡ b
count_exactly f true e s = refl
count_exactly f false e s = s

seven : (tries fulls : ℕ) → tries ≡ min 8 fulls → (tries ≡ 8 → ⊥) → min 8 (tries + 1) ≡ 8 → fulls + 1 ≡ 8
seven tries fulls e no_eight q = by (tries == 8) refl
  where
    by : (b : Bool) → (tries == 8) ≡ b → fulls + 1 ≡ 8
    by true p = absurd (no_eight (grind (arith, p)))
    by false p = let other : (tries ≡ 8 → ⊥) = no_eight in grind (arith, e, q, p)

eight_of : (tries fulls : ℕ) → tries ≡ min 8 fulls → fulls + 1 ≡ 8 → (min 8 (tries + 1) == 8) ≡ true
eight_of tries fulls e q = grind (arith, e, q)

eight_is : (x : ℕ) → (x == 8) ≡ true → x ≡ 8
eight_is x e = grind (arith, e)

at_eight : (a : Bool) (fulls : ℕ) → fulls ≡ 8 → (a || nat_le 8 fulls) ≡ true
at_eight true fulls e = refl
at_eight false fulls e = grind (arith, e)

pub suspends_at_eighth : (c : Content) (story : Story) (receiver n stamp : ℕ) (track : Track) (t : Told) → Linked c story receiver n n stamp track t → SuspendsAtEighth c n stamp track t
suspends_at_eighth c story receiver n stamp track t h = record {
  exactly = λ item offers runs lives.
      let f : FeedState = counted track.feed item stamp in
      let is : (after_answer c n stamp track item Full).feed.suspended ≡ suspends f = freeze_keeps (refused track.feed item stamp) (roots_in c (with_feed track (refused track.feed item stamp) false)) ∙ count_exactly f (suspends f) refl runs in
      let quiet : (track.feed.suspended || track.feed.owed.terminated) ≡ false = ap (λ (b : Bool). b || track.feed.owed.terminated) runs ∙ lives in
      let free : (not track.feed.suspended && not track.feed.owed.terminated) ≡ true = (λ i. not (runs i) && not (lives i)) in (
        (λ s. seven track.feed.tries t.fulls h.tries (λ e. clash (track.feed.suspended || track.feed.owed.terminated) (h.eight e) quiet) (eight_is (min 8 (track.feed.tries + 1)) (and_parts (min 8 (track.feed.tries + 1) == 8) (not track.feed.suspended && not track.feed.owed.terminated) (sym is ∙ s)).0)),
        (λ e. is ∙ (λ i. eight_of track.feed.tries t.fulls h.tries e i && free i)),
      );
  awaits = λ item e. at_eight t.awaits (t.fulls + 1) e;
  takes = λ item s. taken_keeps item track.feed.suspended s;
  looks = refl;
  moments = λ m. moment_keeps c m n track;
}

-- ---- what makes an incomplete update owed

freeze_exactly : (f : FeedState) (b : Bool) → f.owed.incomplete ≡ false → (if b then frozen f else f).owed.incomplete ≡ b
freeze_exactly f true e = refl
freeze_exactly f false e = e

control_owes : (f : FeedState) (control : Control) (n stamp : ℕ) → (controlled f control n stamp).owed.incomplete ≡ true → f.owed.incomplete ≡ true
control_owes f (Modify trigger notify) n stamp e = absurd (true≢false (sym e))
control_owes f Resync n stamp e = absurd (true≢false (sym e))
control_owes f Rules n stamp e = by f.owed.terminated e
  where
    by : (b : Bool) → (if b then f else restarted f n).owed.incomplete ≡ true → f.owed.incomplete ≡ true
    by true q = q
    by false q = absurd (true≢false (sym q))
control_owes f End n stamp e = absurd (true≢false (sym e))

taken_owes : (f : FeedState) (item : Item) → (without f.owed item).incomplete ≡ true → f.owed.incomplete ≡ true
taken_owes f Started e = e
taken_owes f Modified e = e
taken_owes f Incomplete e = absurd (true≢false (sym e))
taken_owes f Suspended e = e
taken_owes f Resumed e = e
taken_owes f Sync e = e
taken_owes f Terminated e = e
taken_owes f Changes e = e
taken_owes f Periodic e = e

count_owes : (f : FeedState) (b : Bool) → (if b then suspended f else f).owed.incomplete ≡ true → f.owed.incomplete ≡ true
count_owes f true e = absurd (true≢false (sym e))
count_owes f false e = e

pub freezes_after_full : (c : Content) (story : Story) (receiver n stamp : ℕ) (track : Track) (t : Told) → Linked c story receiver n n stamp track t → FreezesAfterFull c n stamp track t
freezes_after_full c story receiver n stamp track t h = record {
  exactly = λ none.
      let is : (freeze_tried c n stamp track).feed.owed.incomplete ≡ freezes track.feed (roots_in c track) = freeze_exactly track.feed (freezes track.feed (roots_in c track)) none in
      ((λ e. sym is ∙ e), (λ e. is ∙ e));
  full = λ e. some_full track.feed.tries t.fulls h.tries (and_parts (nat_lt 0 track.feed.tries) _ (and_parts (is_on_change track.feed.trigger) _ e).1).0;
  controls = λ control e. control_owes track.feed control n stamp e;
  takes = λ item e. taken_owes track.feed item e;
  refuses = λ item e. count_owes (counted track.feed item stamp) (suspends (counted track.feed item stamp)) e;
}
