-- Slots that were looked at and offer nothing.
use Rattle.std.proofs.Common.{◌≡◌, ℕ, refl, sym, ap, ◌∙◌, Bool, true, false, List, [], length, Option, Some, None}
use Rattle.std.specs.Prelude.{if◌then◌else◌, nat_lt}
use Rattle.std.proofs.lemmas.Bool.{and_right}
use Rattle.yp_schema.specs.declared.schema.SchemaNode.{SchemaNode}
use Rattle.yp_feed.specs.declared.item.Item.{Item}
use Rattle.yp_feed.specs.declared.item.Item.TheVariants.{Changes}
use Rattle.yp_feed.specs.Machine.{FeedState, after_freeze, freezes, frozen, is_on_change, looked, offer_of}
use Rattle.yp_touch.specs.declared.root.Root.{Root}
use Rattle.yp_journal.specs.History.{JournalState}
use Rattle.yp_attempt.specs.Tracks.{Track, offered_item, rebased, roots_in}
use Rattle.yp_attempt.specs.Workers.{ready}
use Rattle.yp_moment.specs.Windows.{recorded}
use Rattle.yp_slot.specs.declared.slot.Slot.{Slot}
use Rattle.yp_slot.specs.Slots.{IsQuiet, IsSlotOf}
use Rattle.yp_slot.proofs.Looks.{freezes_same, other_same, tried_as, unmoved}
use Rattle.yp_slot.proofs.Numbers.{IsOther, capped, due_now, nothing_due, stays_with_one}
use Rattle.yp_slot.proofs.Standing.{AreWindows}

none_other : IsOther None
none_other e = cc

-- of no places nothing is set aside
none_thawed : (f : FeedState) → freezes f 0 ≡ false
none_thawed f = and_right (is_on_change f.trigger) _ (and_right (nat_lt 0 f.tries) _ refl)

-- what a slot that offers nothing stands for was looked at, and offers nothing
pub quiet_track : AreWindows → (nodes : List SchemaNode) (state : JournalState) (slot : Slot) (track : Track) → IsQuiet state slot → IsSlotOf nodes state slot track → (ready recorded state.position state.stamp track ≡ track) × (offered_item recorded state.stamp track ≡ None)
quiet_track windows nodes state slot track quiet stands =
    let none : freezes track.feed (roots_in recorded track) ≡ false = sym (freezes_same nodes state slot track windows stands) ∙ quiet.thawed in
    let same = other_same nodes state slot track windows stands (capped (length slot.touched)) None refl (sym quiet.none) none_other in
    (ap (rebased recorded state.position state.stamp) (ap (tried_as state.position state.stamp track) none) ∙ unmoved state.position state.stamp track same.stays, same.offers)

-- a look that finds nothing
pub quiet_other : (state : JournalState) (slot : Slot) (f : FeedState) (n q : ℕ) (item : Option Item) → freezes slot.feed (capped (length slot.touched)) ≡ false → q ≡ capped (length slot.touched) → item ≡ offer_of slot.feed q 1 state.stamp
    → f ≡ looked slot.feed q 1 n state.stamp → item ≡ None → IsQuiet state (record slot { feed = f })
quiet_other state slot f n q item thawed many is after none =
    let back : f ≡ slot.feed = after ∙ ap (λ (b : Bool). record slot.feed { base = if b then n else slot.feed.base }) (stays_with_one slot.feed q state.stamp) in
    record {
      thawed = ap (λ (g : FeedState). freezes g (capped (length slot.touched))) back ∙ thawed;
      none = (λ i. offer_of (back i) (sym many i) 1 state.stamp) ∙ sym is ∙ none;
    }

-- a look that counts changes anew
pub quiet_counted : (state : JournalState) (slot : Slot) (f : FeedState) (n q : ℕ) (touched : List Root) → offer_of slot.feed (capped (length slot.touched)) 1 state.stamp ≡ Some Changes → f ≡ looked slot.feed q 0 n state.stamp → touched ≡ []
    → IsQuiet state (record slot { feed = f; touched = touched })
quiet_counted state slot f n q touched due after empty =
    let d = due_now slot.feed state.stamp (capped (length slot.touched)) due in
    record {
      thawed = ap (λ (roots : List Root). freezes f (capped (length roots))) empty ∙ none_thawed f;
      none = (λ i. offer_of (after i) (capped (length (empty i))) 1 state.stamp) ∙ nothing_due (looked slot.feed q 0 n state.stamp) state.stamp 1 d.on_change d.idle;
    }

-- ---- feeds that were tried

pub frozen_stays : (f : FeedState) (r : ℕ) → freezes (frozen f) r ≡ false
frozen_stays f r = and_right (is_on_change f.trigger) _ (and_right (nat_lt 0 f.tries) _ (and_right (nat_lt 256 r) false refl))

-- where a record was set aside, none is again
pub frozen_thawed : (f g : FeedState) (q r : ℕ) → g ≡ after_freeze f q → freezes f q ≡ true → freezes g r ≡ false
frozen_thawed f g q r is holds = ap (λ (h : FeedState). freezes h r) (is ∙ ap (λ (b : Bool). if b then frozen f else f) holds) ∙ frozen_stays f r

-- and where none was
pub still_thawed : (f g : FeedState) (q r : ℕ) → q ≡ r → g ≡ after_freeze f q → freezes f q ≡ false → freezes g r ≡ false
still_thawed f g q r same is none = ap (λ (h : FeedState). freezes h r) (is ∙ ap (λ (b : Bool). if b then frozen f else f) none) ∙ ap (freezes f) (sym same) ∙ none
