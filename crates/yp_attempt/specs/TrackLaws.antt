-- What follows of tracks: a track stays that of one subscription and one receiver.
use Rattle.std.proofs.Common.{◌≡◌, ℕ, refl, sym, ap, ◌∙◌, Bool, true, false, not, ◌&&◌, ◌||◌, [], Option, Some, None, arith}
use Rattle.std.specs.Prelude.{if◌then◌else◌, ◌==◌, nat_lt}
use Rattle.std.proofs.lemmas.Bool.{true≢false, and_right}
use Rattle.std.proofs.lemmas.Option.{none-some}
use Rattle.yp_base.specs.declared.notice.Trigger.{Trigger}
use Rattle.yp_base.specs.declared.notice.Trigger.TheVariants.{Periodic as Every, OnChange}
use Rattle.yp_feed.specs.declared.item.Item.{Item}
use Rattle.yp_feed.specs.declared.item.Item.TheVariants.{Changes}
use Rattle.yp_feed.specs.declared.item.Control.{Control}
use Rattle.yp_feed.specs.declared.item.Control.TheVariants.{Modify, Resync, Rules, End}
use Rattle.yp_feed.specs.Machine.{FeedState, freezes, frozen, after_freeze, refused, counted, suspends, suspended, controlled, restarted, due_item, first_of, is_at, is_empty_record, is_past, is_on_change}
use Rattle.yp_attempt.specs.Content.{Content}
use Rattle.yp_attempt.specs.Tracks.{Track, Answer, Took, Full, current, edit_count, moving, offered_item, rebased, roots_in, after_answer, record_in, freeze_tried}
use Rattle.yp_attempt.specs.Workers.{ready, answered_alone}
use Rattle.yp_attempt.specs.Moments.{Moment, Act, Quiet, Starts, Controls, Drops, with_selection, with_control, after_act, after_rules, after_moment}

-- of the same subscription, for the same receiver
abbrev pub AreSame : FeedState → FeedState → Type 0
AreSame f g = (f.sub ≡ g.sub) × (f.receiver ≡ g.receiver)

same_through : (f g h : FeedState) → AreSame f g → AreSame g h → AreSame f h
same_through f g h one two = (one.0 ∙ two.0, one.1 ∙ two.1)

-- ---- feeds

control_same : (f : FeedState) (control : Control) (n stamp : ℕ) → AreSame (controlled f control n stamp) f
control_same f (Modify trigger notify) n stamp = (refl, refl)
control_same f Resync n stamp = (refl, refl)
control_same f Rules n stamp = by f.owed.terminated
  where
    by : (b : Bool) → AreSame (if b then f else restarted f n) f
    by true = (refl, refl)
    by false = (refl, refl)
control_same f End n stamp = (refl, refl)

freeze_same : (f : FeedState) (roots : ℕ) → AreSame (after_freeze f roots) f
freeze_same f roots = by (freezes f roots)
  where
    by : (b : Bool) → AreSame (if b then frozen f else f) f
    by true = (refl, refl)
    by false = (refl, refl)

refused_same : (f : FeedState) (item : Item) (stamp : ℕ) → AreSame (refused f item stamp) f
refused_same f item stamp = by (suspends (counted f item stamp))
  where
    by : (b : Bool) → AreSame (if b then suspended (counted f item stamp) else counted f item stamp) f
    by true = (refl, refl)
    by false = (refl, refl)

-- ---- tracks

pub act_same : (n stamp : ℕ) (act : Act) (t : Track) → AreSame (after_act n stamp act t).feed t.feed
act_same n stamp Quiet t = (refl, refl)
act_same n stamp (Starts sub trigger configured names) t = (refl, refl)
act_same n stamp (Controls sub control) t = by (t.feed.sub == sub)
  where
    by : (b : Bool) → AreSame (if b then with_control n stamp control t else t).feed t.feed
    by true = control_same t.feed control n stamp
    by false = (refl, refl)
act_same n stamp (Drops sub) t = (refl, refl)

rules_same : (n : ℕ) (m : Moment) (t : Track) → AreSame (after_rules n m t).feed t.feed
rules_same n m t = by (m.rules t.feed.receiver)
  where
    by : (b : Bool) → AreSame (if b then with_control n m.stamp Rules t else t).feed t.feed
    by true = control_same t.feed Rules n m.stamp
    by false = (refl, refl)

pub moment_same : (c : Content) (m : Moment) (n : ℕ) (t : Track) → AreSame (after_moment c m n t).feed t.feed
moment_same c m n t =
    let acted : Track = after_act n m.stamp m.act (with_selection m t) in
    let ruled : Track = after_rules n m acted in
    same_through (after_moment c m n t).feed ruled.feed t.feed (freeze_same ruled.feed (roots_in c ruled))
    (same_through ruled.feed acted.feed t.feed (rules_same n m acted) (act_same n m.stamp m.act (with_selection m t)))

pub answer_same : (c : Content) (n stamp : ℕ) (t : Track) (item : Item) (answer : Answer) → AreSame (after_answer c n stamp t item answer).feed t.feed
answer_same c n stamp t item Took = (refl, refl)
answer_same c n stamp t item Full = same_through (after_answer c n stamp t item Full).feed (refused t.feed item stamp) t.feed (freeze_same (refused t.feed item stamp) _) (refused_same t.feed item stamp)

-- ---- looks

-- of changes that make no edit none are offered
no_edits : (past some : Bool) (edits : ℕ) → (past && (some && (edits == 0))) ≡ true → (if past && (some && nat_lt 0 edits) then Some Changes else None) ≡ None
no_edits past some edits e = grind (arith, e)

nothing_due : (trigger : Trigger) (last : Option ℕ) (due roots edits stamp : ℕ) → is_empty_record trigger last roots edits stamp ≡ true → due_item trigger last due roots edits stamp ≡ None
nothing_due (Every period anchor) last due roots edits stamp e = absurd (true≢false (sym e))
nothing_due (OnChange dampening sync excluded) last due roots edits stamp e = no_edits (is_past last dampening stamp) (nat_lt 0 roots) edits e

-- nothing is offered where nothing is owed and nothing is due
nothing_first : (full started modified incomplete suspended resumed sync terminated empty : Bool) (due : Option Item) → (not full && (not (started || (modified || (incomplete || (suspended || (resumed || (sync || terminated)))))) && empty)) ≡ true → (empty ≡ true → due ≡ None)
    → (if full then None else first_of started modified incomplete suspended resumed sync terminated due) ≡ None
nothing_first full started modified incomplete suspended resumed sync terminated empty due e none = grind (arith, e, none)

-- a track whose base would move offers nothing
pub moving_idle : (c : Content) (stamp : ℕ) (t : Track) → moving c stamp t ≡ true → offered_item c stamp t ≡ None
moving_idle c stamp t e =
    let owed = t.feed.owed in
    nothing_first (is_at t.feed.last_full stamp) owed.started owed.modified owed.incomplete owed.suspended owed.resumed owed.sync owed.terminated
    (is_empty_record t.feed.trigger t.feed.last_record (roots_in c t) (edit_count c t) stamp) (due_item t.feed.trigger t.feed.last_record t.feed.due (roots_in c t) (edit_count c t) stamp) e
    (λ empty. nothing_due t.feed.trigger t.feed.last_record t.feed.due (roots_in c t) (edit_count c t) stamp empty)

abbrev moved_by : ℕ → Track → Bool → Track
moved_by n t b = record t { feed = record t.feed { base = if b then n else t.feed.base }; first = if b then current t else t.first; later = if b then [] else t.later }

-- a track that offers an item stays as it is when it is looked at
pub offering_stays : (c : Content) (n stamp : ℕ) (t : Track) (item : Item) → offered_item c stamp t ≡ Some item → rebased c n stamp t ≡ t
offering_stays c n stamp t item offers = by (moving c stamp t) refl
  where
    by : (b : Bool) → moving c stamp t ≡ b → rebased c n stamp t ≡ t
    by true e = absurd (none-some item (sym (moving_idle c stamp t e) ∙ offers))
    by false e = ap (moved_by n t) e

abbrev tried_as : Content → ℕ → ℕ → Track → Bool → Track
tried_as c n stamp t b = record t {
  feed = if b then frozen t.feed else t.feed;
  frozen = if b then Some (record { from = t.feed.base; position = n; tick = stamp; edits = record_in c t }) else t.frozen;
}

-- after an item that was taken no record is set aside
took_thawed : (c : Content) (n stamp : ℕ) (t : Track) (item : Item) → freeze_tried c n stamp (after_answer c n stamp t item Took) ≡ after_answer c n stamp t item Took
took_thawed c n stamp t item =
    let new : Track = after_answer c n stamp t item Took in
    let no : freezes new.feed (roots_in c new) ≡ false = and_right (is_on_change t.feed.trigger) _ refl in
    ap (tried_as c n stamp new) no

-- a track whose offer was answered, looked at again
pub alone_ready : (c : Content) (n stamp : ℕ) (t : Track) (item : Item) (answer : Answer) → ready c n stamp (answered_alone n stamp t item answer) ≡ rebased c n stamp (after_answer c n stamp t item answer)
alone_ready c n stamp t item Took = ap (rebased c n stamp) (took_thawed c n stamp t item)
alone_ready c n stamp t item Full = refl
