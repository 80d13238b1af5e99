-- What a feed owes where it offers an item.
use Rattle.std.proofs.Common.{◌≡◌, ℕ, refl, subst, Bool, true, false, ◌||◌, Option, Some, None}
use Rattle.std.specs.Prelude.{if◌then◌else◌}
use Rattle.std.proofs.lemmas.Option.{same_Some, none-some}
use Rattle.yp_base.specs.declared.notice.Trigger.{Trigger}
use Rattle.yp_base.specs.declared.notice.Trigger.TheVariants.{Periodic as Every, OnChange}
use Rattle.yp_feed.specs.declared.item.Item.{Item}
use Rattle.yp_feed.specs.declared.item.Item.TheVariants.{Started, Modified, Incomplete, Suspended, Resumed, Sync, Terminated, Changes, Periodic}
use Rattle.yp_feed.specs.Machine.{FeedState, is_on_change, is_at, due_item, first_of, first_owed, offer_of}
use Rattle.yp_attempt.specs.ListLaws.{unblocked}

-- which flags are set and which are not
abbrev pub Flags : Bool → Bool → Bool → Bool → Bool → Trigger → Item → Type 0
Flags incomplete suspended resumed sync terminated trigger Started = Unit {0}
Flags incomplete suspended resumed sync terminated trigger Modified = Unit {0}
Flags incomplete suspended resumed sync terminated trigger Incomplete = incomplete ≡ true
Flags incomplete suspended resumed sync terminated trigger Suspended = (incomplete ≡ false) × (suspended ≡ true)
Flags incomplete suspended resumed sync terminated trigger Resumed = (incomplete ≡ false) × (suspended ≡ false)
Flags incomplete suspended resumed sync terminated trigger Sync = (incomplete ≡ false) × (resumed ≡ false)
Flags incomplete suspended resumed sync terminated trigger Terminated = Unit {0}
Flags incomplete suspended resumed sync terminated trigger Changes = (incomplete ≡ false) × ((sync || terminated) ≡ false) × (is_on_change trigger ≡ true)
Flags incomplete suspended resumed sync terminated trigger Periodic = (incomplete ≡ false) × ((sync || terminated) ≡ false) × (is_on_change trigger ≡ false)

due_changes : (b : Bool) (trigger : Trigger) (item : Item) → is_on_change trigger ≡ true → (if b then Some Changes else None) ≡ Some item → Flags false false false false false trigger item
due_changes true trigger item on e = subst (λ x. Flags false false false false false trigger x) (same_Some Changes item e) (refl, refl, on)
due_changes false trigger item on e = absurd (none-some item e)

due_full : (b : Bool) (trigger : Trigger) (item : Item) → is_on_change trigger ≡ false → (if b then Some Periodic else None) ≡ Some item → Flags false false false false false trigger item
due_full true trigger item on e = subst (λ x. Flags false false false false false trigger x) (same_Some Periodic item e) (refl, refl, on)
due_full false trigger item on e = absurd (none-some item e)

due_flags : (trigger : Trigger) (last : Option ℕ) (due roots edits stamp : ℕ) (item : Item) → due_item trigger last due roots edits stamp ≡ Some item → Flags false false false false false trigger item
due_flags (Every period anchor) last due roots edits stamp item e = due_full _ (Every period anchor) item refl e
due_flags (OnChange dampening sync excluded) last due roots edits stamp item e = due_changes _ (OnChange dampening sync excluded) item refl e

first_flags : (started modified incomplete suspended resumed sync terminated : Bool) (trigger : Trigger) (other : Option Item) (item : Item)
    → ((x : Item) → other ≡ Some x → Flags false false false false false trigger x)
    → first_of started modified incomplete suspended resumed sync terminated other ≡ Some item → Flags incomplete suspended resumed sync terminated trigger item
first_flags true modified incomplete suspended resumed sync terminated trigger other item f e = subst (λ x. Flags incomplete suspended resumed sync terminated trigger x) (same_Some Started item e) tt
first_flags false true incomplete suspended resumed sync terminated trigger other item f e = subst (λ x. Flags incomplete suspended resumed sync terminated trigger x) (same_Some Modified item e) tt
first_flags false false true suspended resumed sync terminated trigger other item f e = subst (λ x. Flags true suspended resumed sync terminated trigger x) (same_Some Incomplete item e) refl
first_flags false false false true resumed sync terminated trigger other item f e = subst (λ x. Flags false true resumed sync terminated trigger x) (same_Some Suspended item e) (refl, refl)
first_flags false false false false true sync terminated trigger other item f e = subst (λ x. Flags false false true sync terminated trigger x) (same_Some Resumed item e) (refl, refl)
first_flags false false false false false true terminated trigger other item f e = subst (λ x. Flags false false false true terminated trigger x) (same_Some Sync item e) (refl, refl)
first_flags false false false false false false true trigger other item f e = subst (λ x. Flags false false false false true trigger x) (same_Some Terminated item e) tt
first_flags false false false false false false false trigger other item f e = f item e

-- of a feed
abbrev pub Offered : FeedState → Item → Type 0
Offered f item = Flags f.owed.incomplete f.owed.suspended f.owed.resumed f.owed.sync f.owed.terminated f.trigger item

-- its last full answer was at another stamp
pub offered : (f : FeedState) (roots edits stamp : ℕ) (item : Item) → offer_of f roots edits stamp ≡ Some item → (is_at f.last_full stamp ≡ false) × Offered f item
offered f roots edits stamp item e =
    let u = unblocked (is_at f.last_full stamp) (first_owed f.owed (due_item f.trigger f.last_record f.due roots edits stamp)) item e in (
      u.0,
      first_flags f.owed.started f.owed.modified f.owed.incomplete f.owed.suspended f.owed.resumed f.owed.sync f.owed.terminated f.trigger
          (due_item f.trigger f.last_record f.due roots edits stamp) item (λ x d. due_flags f.trigger f.last_record f.due roots edits stamp x d) u.1,
    )
