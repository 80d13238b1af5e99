-- A slot whose feed goes a step on.
use Rattle.std.proofs.Common.{◌≡◌, ℕ, ◌<◌, refl, sym, ap, subst, ◌∙◌, Bool, true, false, true≢false, not, ◌&&◌, ◌||◌, List, [], length, Option, None}
use Rattle.std.specs.Prelude.{IfSome, if◌then◌else◌, ◌==◌}
use Rattle.std.specs.List.{AllByRecursion}
use Rattle.std.proofs.lemmas.Bool.{and_parts, not-true, or_parts, or_from, and_right}
use Rattle.yp_schema.specs.declared.schema.SchemaNode.{SchemaNode}
use Rattle.yp_base.specs.declared.notice.Trigger.{Trigger}
use Rattle.yp_base.specs.declared.notice.Trigger.TheVariants.{Periodic as Every, OnChange}
use Rattle.yp_feed.specs.declared.item.Control.{Control}
use Rattle.yp_feed.specs.declared.item.Control.TheVariants.{Modify, Resync, Rules}
use Rattle.yp_feed.specs.declared.item.Item.{Item}
use Rattle.yp_feed.specs.declared.item.Item.TheVariants.{Started, Modified, Incomplete, Suspended, Resumed, Sync, Terminated, Changes, Periodic}
use Rattle.yp_feed.specs.Machine.{FeedState, amended, controlled, counted, ending, is_on_change, is_terminated, rebases, refused, restarted, restarts, resyncs, suspended, suspends, taken, with_terms}
use Rattle.yp_touch.specs.declared.root.Root.{Root}
use Rattle.yp_touch.specs.Absorbed.{EndsAsRow, all_absorbed, paths_of}
use Rattle.yp_journal.specs.History.{JournalState}
use Rattle.yp_attempt.specs.Tracks.{Track, current, kept_if, with_feed}
use Rattle.yp_moment.specs.Entries.{selected_at}
use Rattle.yp_slot.specs.declared.slot.Frozen.{Frozen as FrozenHere}
use Rattle.yp_slot.specs.declared.slot.Slot.{Slot}
use Rattle.yp_slot.specs.Slots.{FollowsTerms, IsSendableRecord, IsRead, IsSlotOf, frozen_of}
use Rattle.yp_slot.specs.Steps.{gone_on}
use Rattle.yp_slot.proofs.Standing.{follows_again}

-- a feed that doesn't resync owes no resynchronisation
abbrev pub IsPlain : FeedState → Type 0
IsPlain f = (f.owed.sync && not (resyncs f.trigger)) ≡ false

-- the numbers of a feed may be read
abbrev pub Reads : FeedState → Type 0
Reads f = (is_on_change f.trigger ≡ true) × ((f.owed.sync || f.owed.terminated) ≡ false)

-- a feed owes all that it selects or its end, not both
abbrev pub IsApart : FeedState → Type 0
IsApart f = (f.owed.sync && f.owed.terminated) ≡ false

-- a slot stands for a track but for its filter and the places that it keeps
pub record StandsBut (nodes : List SchemaNode) (state : JournalState) (slot : Slot) (track : Track) : Type 0 where
  pub receiver : slot.feed.receiver < length state.receivers
  pub paths : AllByRecursion (EndsAsRow nodes) (paths_of slot.touched)
  pub sendable : IfSome slot.frozen (IsSendableRecord nodes)
  pub feed : slot.feed ≡ track.feed
  pub frozen : frozen_of slot.frozen ≡ track.frozen
  pub plain : IsPlain track.feed
  pub apart : IsApart track.feed
  pub current : current track ≡ selected_at nodes state track.feed.sub track.feed.receiver

pub with_places : (nodes : List SchemaNode) (state : JournalState) (slot : Slot) (track : Track) → StandsBut nodes state slot track → FollowsTerms nodes state slot → (IsRead track → slot.touched ≡ all_absorbed [] track.first track.later) → IsSlotOf nodes state slot track
with_places nodes state slot track but terms roots = record {
  kept = record { terms = terms; receiver = but.receiver; paths = but.paths; sendable = but.sendable };
  feed = but.feed;
  frozen = but.frozen;
  roots = roots;
  plain = but.plain;
  apart = but.apart;
  current = but.current;
}

-- a feed that goes on from another: of the same subscription and receiver, and as plain and apart; where the base stays and its numbers may be read, they could be before
pub record GoesOn (f g : FeedState) (moved : Bool) : Type 0 where
  pub sub : g.sub ≡ f.sub
  pub receiver : g.receiver ≡ f.receiver
  pub plain : IsPlain f → IsPlain g
  pub apart : IsApart f → IsApart g
  pub reads : moved ≡ false → IsPlain f → Reads g → Reads f

-- ---- a step

frozen_kept : (b : Bool) (o : Option FrozenHere) → frozen_of (if b then o else None) ≡ kept_if b (frozen_of o)
frozen_kept true o = refl
frozen_kept false o = refl

sendable_kept : (nodes : List SchemaNode) (b : Bool) (o : Option FrozenHere) → IfSome o (IsSendableRecord nodes) → IfSome (if b then o else None) (IsSendableRecord nodes)
sendable_kept nodes true o h = h
sendable_kept nodes false o h = tt

paths_kept : (nodes : List SchemaNode) (b : Bool) (roots : List Root) → AllByRecursion (EndsAsRow nodes) (paths_of roots) → AllByRecursion (EndsAsRow nodes) (paths_of (if b then [] else roots))
paths_kept nodes true roots h = tt
paths_kept nodes false roots h = h

module _ (nodes : List SchemaNode) (state : JournalState) (slot : Slot) (track : Track) (but : StandsBut nodes state slot track) (g : FeedState) where
  -- where the base moves, or stays; the slot drops its places in some more cases, in which they aren't read
  pub goes_on : (moved dropped : Bool) → GoesOn track.feed g moved → FollowsTerms nodes state (record slot { feed = g }) → (moved ≡ true → dropped ≡ true)
      → (moved ≡ false → IsRead (with_feed track g moved) → (dropped ≡ false) × (slot.touched ≡ all_absorbed [] track.first track.later))
      → IsSlotOf nodes state (gone_on (record slot { feed = g }) dropped) (with_feed track g moved)
  goes_on moved dropped goes terms drops places =
      let new = gone_on (record slot { feed = g }) dropped in
      with_places nodes state new (with_feed track g moved) (record {
        receiver = subst (λ (n : ℕ). n < length state.receivers) (ap (λ (f : FeedState). f.receiver) but.feed ∙ sym goes.receiver) but.receiver;
        paths = paths_kept nodes dropped slot.touched but.paths;
        sendable = sendable_kept nodes g.owed.incomplete slot.frozen but.sendable;
        feed = refl;
        frozen = frozen_kept g.owed.incomplete slot.frozen ∙ ap (kept_if g.owed.incomplete) but.frozen;
        plain = goes.plain but.plain;
        apart = goes.apart but.apart;
        current = last moved ∙ but.current ∙ (λ i. selected_at nodes state (sym goes.sub i) (sym goes.receiver i));
      }) (follows_again nodes state (record slot { feed = g }) new terms refl refl refl) (roots moved dropped drops places)
    where
      last : (b : Bool) → current (with_feed track g b) ≡ current track
      last true = refl
      last false = refl

      roots : (b d : Bool) → (b ≡ true → d ≡ true) → (b ≡ false → IsRead (with_feed track g b) → (d ≡ false) × (slot.touched ≡ all_absorbed [] track.first track.later)) → IsRead (with_feed track g b)
          → (if d then [] else slot.touched) ≡ all_absorbed [] (with_feed track g b).first (with_feed track g b).later
      roots true true drops places read = refl
      roots true false drops places read = absurd (true≢false (sym (drops refl)))
      roots false d drops places read = let p = places refl read in ap (λ (b : Bool). if b then [] else slot.touched) p.0 ∙ p.1

-- ---- what happens to a feed

restarted_plain : (sync resync : Bool) → (sync && not resync) ≡ false → ((sync || resync) && not resync) ≡ false
restarted_plain true true e = refl
restarted_plain true false e = e
restarted_plain false true e = refl
restarted_plain false false e = refl

-- a trigger that is amended resyncs as before
amended_resyncs : (kept given : Trigger) → resyncs (amended kept given) ≡ resyncs kept
amended_resyncs (Every period anchor) (Every other new) = refl
amended_resyncs (Every period anchor) (OnChange dampening sync excluded) = refl
amended_resyncs (OnChange dampening sync excluded) (Every period anchor) = refl
amended_resyncs (OnChange dampening sync excluded) (OnChange other new kinds) = refl

amended_on_change : (kept given : Trigger) → is_on_change (amended kept given) ≡ is_on_change kept
amended_on_change (Every period anchor) (Every other new) = refl
amended_on_change (Every period anchor) (OnChange dampening sync excluded) = refl
amended_on_change (OnChange dampening sync excluded) (Every period anchor) = refl
amended_on_change (OnChange dampening sync excluded) (OnChange other new kinds) = refl

-- what becomes of a feed whose end isn't owed, or of one by other rules: whether its end is owed stays, and where no base moves it owes all that it selects, or its end
pub record Continues (f : FeedState) (control : Control) (n stamp : ℕ) : Type 0 where
  pub goes : GoesOn f (controlled f control n stamp) (restarts f control)
  pub ends : (controlled f control n stamp).owed.terminated ≡ f.owed.terminated
  pub unread : restarts f control ≡ false → ((controlled f control n stamp).owed.sync || (controlled f control n stamp).owed.terminated) ≡ false → ⊥
  pub drops : restarts f control ≡ true → not (resyncs (controlled f control n stamp).trigger) ≡ true

restarted_on : (f : FeedState) (n : ℕ) → f.owed.terminated ≡ false → GoesOn f (restarted f n) (not (resyncs f.trigger))
restarted_on f n lives = record {
  sub = refl;
  receiver = refl;
  plain = restarted_plain f.owed.sync (resyncs f.trigger);
  apart = λ _. and_right (f.owed.sync || resyncs f.trigger) f.owed.terminated lives;
  reads = λ stays plain reads. (reads.0, or_from f.owed.sync f.owed.terminated (or_parts f.owed.sync (resyncs f.trigger) (or_parts (f.owed.sync || resyncs f.trigger) f.owed.terminated reads.1).0).0 lives);
}

restarted_unread : (f : FeedState) (n : ℕ) → not (resyncs f.trigger) ≡ false → ((restarted f n).owed.sync || (restarted f n).owed.terminated) ≡ false → ⊥
restarted_unread f n stays none =
    let resync : resyncs f.trigger ≡ false = (or_parts f.owed.sync (resyncs f.trigger) (or_parts (f.owed.sync || resyncs f.trigger) f.owed.terminated none).0).1 in
    true≢false (ap not (sym resync) ∙ stays)

pub resync_continues : (f : FeedState) (n stamp : ℕ) → f.owed.terminated ≡ false → Continues f Resync n stamp
resync_continues f n stamp lives = record { goes = restarted_on f n lives; ends = refl; unread = restarted_unread f n; drops = λ moves. moves }

pub rules_continue : (f : FeedState) (n stamp : ℕ) → Continues f Rules n stamp
rules_continue f n stamp = let it = by f.owed.terminated refl in record { goes = it.0; ends = it.1; unread = it.2; drops = it.3 }
  where
    by : (b : Bool) → f.owed.terminated ≡ b → GoesOn f (if b then f else restarted f n) (not b && not (resyncs f.trigger)) × ((if b then f else restarted f n).owed.terminated ≡ f.owed.terminated)
        × ((not b && not (resyncs f.trigger)) ≡ false → ((if b then f else restarted f n).owed.sync || (if b then f else restarted f n).owed.terminated) ≡ false → ⊥)
        × ((not b && not (resyncs f.trigger)) ≡ true → not (resyncs (if b then f else restarted f n).trigger) ≡ true)
    by true e = (
      record { sub = refl; receiver = refl; plain = λ plain. plain; apart = λ apart. apart; reads = λ _ plain reads. reads },
      refl,
      λ _ none. true≢false (sym e ∙ (or_parts f.owed.sync f.owed.terminated none).1),
      λ moves. absurd (true≢false (sym moves)),
    )
    by false e = (restarted_on f n e, refl, restarted_unread f n, λ moves. moves)

pub modify_continues : (f : FeedState) (trigger : Trigger) (notify : Bool) (n stamp : ℕ) → f.owed.terminated ≡ false → Continues f (Modify trigger notify) n stamp
modify_continues f trigger notify n stamp lives =
    let g = with_terms f trigger notify stamp in
    let next = restarted_on g n lives in
    let same = amended_resyncs f.trigger trigger in
    record {
      goes = record {
        sub = refl;
        receiver = refl;
        plain = λ plain. next.plain (ap (λ (b : Bool). f.owed.sync && not b) same ∙ plain);
        apart = next.apart;
        reads = λ stays plain reads.
            let before = next.reads stays (ap (λ (b : Bool). f.owed.sync && not b) same ∙ plain) reads in
            (sym (amended_on_change f.trigger trigger) ∙ before.0, before.1);
      };
      ends = refl;
      unread = restarted_unread g n;
      drops = λ moves. moves;
    }

-- what becomes of a feed that ends
pub ending_on : (f : FeedState) → GoesOn f (ending f) false
ending_on f = record {
  sub = refl;
  receiver = refl;
  plain = λ _. refl;
  apart = λ _. refl;
  reads = λ _ plain reads. absurd (true≢false reads.1);
}

-- ---- answers

-- what is known but for the filter and the places
pub but_filter : (nodes : List SchemaNode) (state : JournalState) (slot : Slot) (track : Track) → IsSlotOf nodes state slot track → StandsBut nodes state slot track
but_filter nodes state slot track stands = record {
  receiver = stands.kept.receiver;
  paths = stands.kept.paths;
  sendable = stands.kept.sendable;
  feed = stands.feed;
  frozen = stands.frozen;
  plain = stands.plain;
  apart = stands.apart;
  current = stands.current;
}

-- a slot whose feed goes on at the same state, where its end is owed as before
pub settles_on : (nodes : List SchemaNode) (state : JournalState) (slot : Slot) (track : Track) (g : FeedState) (moved : Bool) → IsSlotOf nodes state slot track → GoesOn track.feed g moved → g.owed.terminated ≡ track.feed.owed.terminated
    → IsSlotOf nodes state (gone_on (record slot { feed = g }) moved) (with_feed track g moved)
settles_on nodes state slot track g moved stands on ends =
    goes_on nodes state slot track (but_filter nodes state slot track stands) g moved moved on
    (follows_again nodes state slot (record slot { feed = g }) stands.kept.terms (on.sub ∙ ap (λ (f : FeedState). f.sub) (sym stands.feed)) (ends ∙ ap (λ (f : FeedState). f.owed.terminated) (sym stands.feed)) refl) (λ m. m)
    (λ stays read. let reads = on.reads stays stands.plain (read.on_change, read.unowed) in (stays, stands.roots (record { on_change = reads.0; unowed = reads.1 })))

as_before : (f g : FeedState) (moved : Bool) → g.sub ≡ f.sub → g.receiver ≡ f.receiver → g.trigger ≡ f.trigger → g.owed.sync ≡ f.owed.sync → g.owed.terminated ≡ f.owed.terminated → GoesOn f g moved × (g.owed.terminated ≡ f.owed.terminated)
as_before f g moved sub receiver trigger sync ends = (
  record {
    sub = sub;
    receiver = receiver;
    plain = λ plain. (λ i. sync i && not (resyncs (trigger i))) ∙ plain;
    apart = λ apart. (λ i. sync i && ends i) ∙ apart;
    reads = λ _ plain reads. (ap is_on_change (sym trigger) ∙ reads.0, (λ i. sym sync i || sym ends i) ∙ reads.1);
  },
  ends,
)

-- an item that is taken and isn't the end
pub taken_on : (f : FeedState) (item : Item) (n stamp : ℕ) → is_terminated item ≡ false → GoesOn f (taken f item n stamp) (rebases f item) × ((taken f item n stamp).owed.terminated ≡ f.owed.terminated)
taken_on f Started n stamp lives = as_before f (taken f Started n stamp) _ refl refl refl refl refl
taken_on f Modified n stamp lives = as_before f (taken f Modified n stamp) _ refl refl refl refl refl
taken_on f Incomplete n stamp lives = as_before f (taken f Incomplete n stamp) _ refl refl refl refl refl
taken_on f Suspended n stamp lives = as_before f (taken f Suspended n stamp) _ refl refl refl refl refl
taken_on f Resumed n stamp lives = as_before f (taken f Resumed n stamp) _ refl refl refl refl refl
taken_on f Sync n stamp lives = (record { sub = refl; receiver = refl; plain = λ _. refl; apart = λ _. refl; reads = λ stays. absurd (true≢false stays) }, refl)
taken_on f Terminated n stamp lives = absurd (true≢false lives)
taken_on f Changes n stamp lives = as_before f (taken f Changes n stamp) _ refl refl refl refl refl
taken_on f Periodic n stamp lives = as_before f (taken f Periodic n stamp) _ refl refl refl refl refl

both_not : (b : Bool) → (b && not b) ≡ false
both_not true = refl
both_not false = refl

unsynced : (sync resync : Bool) → (sync && not resync) ≡ false → (resync || false) ≡ false → sync ≡ false
unsynced true true plain none = none
unsynced true false plain none = plain
unsynced false resync plain none = refl

-- a full queue
pub refused_on : (f : FeedState) (item : Item) (stamp : ℕ) → GoesOn f (refused f item stamp) false × ((refused f item stamp).owed.terminated ≡ f.owed.terminated)
refused_on f item stamp = by (suspends (counted f item stamp)) refl
  where
    by : (b : Bool) → suspends (counted f item stamp) ≡ b → GoesOn f (if b then suspended (counted f item stamp) else counted f item stamp) false × ((if b then suspended (counted f item stamp) else counted f item stamp).owed.terminated ≡ f.owed.terminated)
    by false e = as_before f (counted f item stamp) false refl refl refl refl refl
    by true e =
        let lives : f.owed.terminated ≡ false = not-true f.owed.terminated (and_parts (not f.suspended) _ (and_parts ((counted f item stamp).tries == 8) _ e).1).1 in (
          record {
            sub = refl;
            receiver = refl;
            plain = λ _. both_not (resyncs f.trigger);
            apart = λ _. and_right (resyncs f.trigger) false refl;
            reads = λ _ plain reads. (reads.0, or_from f.owed.sync f.owed.terminated (unsynced f.owed.sync (resyncs f.trigger) plain reads.1) lives);
          },
          sym lives,
        )
