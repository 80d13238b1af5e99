-- What is known of a track that is linked: its trigger, its frozen record, and what its record of changes leads to.
use Rattle.std.proofs.Common.{◌≡◌, ℕ, ◌≤◌, refl, sym, ap, ◌∙◌, Bool, true, false, ◌||◌, List, Option, Some, None, arith}
use Rattle.std.proofs.lemmas.Bool.{true≢false, and_parts}
use Rattle.yp_base.specs.declared.row.Row.{Row}
use Rattle.yp_base.specs.declared.notice.Kinds.{Kinds}
use Rattle.yp_base.specs.declared.notice.Trigger.{Trigger}
use Rattle.yp_base.specs.declared.notice.Trigger.TheVariants.{Periodic as Every, OnChange}
use Rattle.yp_feed.specs.declared.item.Item.{Item}
use Rattle.yp_feed.specs.declared.item.Item.TheVariants.{Started, Modified, Incomplete, Suspended, Resumed, Sync, Terminated, Changes, Periodic}
use Rattle.yp_feed.specs.Machine.{resyncs, is_mirrored, is_on_change, excludes_none}
use Rattle.yp_attempt.specs.Content.{Content}
use Rattle.yp_attempt.specs.Tracks.{Track, Frozen, Made, Answer, kept_if, excluded_kinds, record_in, item_made, made_frozen, attempt, after_answer}
use Rattle.yp_mirror.specs.Heard.{Told, heard}
use Rattle.yp_mirror.specs.Stories.{Story, IsWantedBetween, Leads}
use Rattle.yp_mirror.specs.Following.{TellsWindow, IsMadeOf, ComesAfter, Follows}
use Rattle.yp_mirror.specs.Links.{IsFrozen, FrozenFits, Linked}
use Rattle.yp_mirror.proofs.Facts.{clash, copy_at, here}
use Rattle.yp_mirror.proofs.Offering.{Offered}

-- the attempt of an item follows, and the track stays linked unless its feed has told its end
abbrev pub GoesOn : Content → Story → ℕ → ℕ → ℕ → Track → Told → Item → Answer → Type 0
GoesOn c story receiver n stamp track t item answer =
    Follows c story track.feed.sub t (attempt c n stamp track item answer)
    × ((after_answer c n stamp track item answer).feed.ended ≡ false → Linked c story receiver n n stamp (after_answer c n stamp track item answer) (heard c t (attempt c n stamp track item answer)))

-- ---- triggers

pub mirrored_resyncs : (trigger : Trigger) → is_mirrored trigger ≡ true → resyncs trigger ≡ true
mirrored_resyncs (Every period anchor) e = refl
mirrored_resyncs (OnChange dampening sync excluded) e = (and_parts sync (excludes_none excluded) e).0

pub mirrored_whole : (trigger : Trigger) → is_mirrored trigger ≡ true → excludes_none (excluded_kinds trigger) ≡ true
mirrored_whole (Every period anchor) e = refl
mirrored_whole (OnChange dampening sync excluded) e = (and_parts sync (excludes_none excluded) e).1

pub resyncing_if : (c : Content) (story : Story) (receiver n k stamp : ℕ) (track : Track) (t : Told) → Linked c story receiver n k stamp track t → story.mirrored track.feed.sub ≡ true → story.resyncing track.feed.sub ≡ true
resyncing_if c story receiver n k stamp track t h m = h.resyncing ∙ mirrored_resyncs track.feed.trigger (sym h.mirrored ∙ m)

-- ---- frozen records

pub keep_frozen : (c : Content) (story : Story) (sub n k : ℕ) (sync terminated : Bool) (rows : List Row) (last : Option ℕ) (b : Bool) (o : Option Frozen) → FrozenFits c story sub n k sync terminated rows last b o → FrozenFits c story sub n k sync terminated rows last b (kept_if b o)
keep_frozen c story sub n k sync terminated rows last true o h = h
keep_frozen c story sub n k sync terminated rows last false o h = tt

pub no_frozen : (c : Content) (story : Story) (sub n k : ℕ) (sync terminated : Bool) (rows : List Row) (last : Option ℕ) (b : Bool) (o : Option Frozen) → b ≡ false → FrozenFits c story sub n k sync terminated rows last b (kept_if b o)
no_frozen c story sub n k sync terminated rows last true o e = absurd (true≢false e)
no_frozen c story sub n k sync terminated rows last false o e = tt

pub frozen_is : (c : Content) (story : Story) (sub n k : ℕ) (sync terminated : Bool) (rows : List Row) (last : Option ℕ) (b : Bool) (o : Option Frozen) → FrozenFits c story sub n k sync terminated rows last b o → b ≡ true
    → (frozen : Frozen) × (o ≡ Some frozen) × IsFrozen c story sub n k sync terminated rows last frozen
frozen_is c story sub n k sync terminated rows last true (Some frozen) h e = (frozen, refl, h)
frozen_is c story sub n k sync terminated rows last true None h e = absurd h
frozen_is c story sub n k sync terminated rows last false o h e = absurd (true≢false (sym e))

-- a feed that ends has none
pub ends_none : (c : Content) (story : Story) (sub n k : ℕ) (sync terminated : Bool) (rows : List Row) (last : Option ℕ) (b : Bool) (o : Option Frozen) → FrozenFits c story sub n k sync terminated rows last b o → terminated ≡ true → b ≡ false
ends_none c story sub n k sync terminated rows last true (Some frozen) h e = clash terminated e h.lives
ends_none c story sub n k sync terminated rows last true None h e = absurd h
ends_none c story sub n k sync terminated rows last false o h e = refl

-- ---- what is offered

-- the window begins with what was selected at the base
first_wanted : (c : Content) (story : Story) (receiver n k stamp : ℕ) (track : Track) (t : Told) → Linked c story receiver n k stamp track t → IsWantedBetween story track.feed.sub track.feed.base n track.first
first_wanted c story receiver n k stamp track t h = (track.feed.base, omega arith, h.base, h.first)

-- a record of changes is of what was selected since the base
pub window_told : (c : Content) (story : Story) (receiver n k stamp : ℕ) (track : Track) (t : Told) → Linked c story receiver n k stamp track t → TellsWindow c story track.feed.sub track.feed.base n (record_in c track)
window_told c story receiver n k stamp track t h = record { kinds = excluded_kinds track.feed.trigger; first = track.first; later = track.later; begins = first_wanted c story receiver n k stamp track t h; goes_on = h.window; edits = refl }

-- a record of changes leads from the copy to what is selected now
pub record_fresh : (c : Content) (story : Story) (leads : Leads c story) (receiver n k stamp : ℕ) (track : Track) (t : Told) → Linked c story receiver n k stamp track t
    → is_on_change track.feed.trigger ≡ true → (track.feed.owed.sync || track.feed.owed.terminated) ≡ false → story.mirrored track.feed.sub ≡ true → c.received t.rows (record_in c track) ≡ story.want track.feed.sub n
record_fresh c story leads receiver n k stamp track t h on quiet m =
    let kinds : Kinds = excluded_kinds track.feed.trigger in
    let whole : excludes_none kinds ≡ true = mirrored_whole track.feed.trigger (sym h.mirrored ∙ m) in
    let copy : t.rows ≡ track.first = copy_at story track.feed.sub t.rows t.last track.feed.base (h.last m on quiet) (h.copy m) ∙ sym h.first in
    ap (λ (rows : List Row). c.received rows (c.window_record kinds track.first track.later)) copy ∙ (leads.leads track.feed.sub track.feed.base n kinds whole track.first track.later (first_wanted c story receiver n k stamp track t h) h.window ∙ h.current)

-- what was made says what was selected at positions up to another one
abbrev pub IsToldAt : Content → Story → ℕ → ℕ → Made → Type 0
IsToldAt c story sub at made = IsMadeOf c story sub made × ((made.from ≤ made.position) × (made.position ≤ at))

frozen_told : (c : Content) (story : Story) (sub n k : ℕ) (sync terminated : Bool) (rows : List Row) (last : Option ℕ) (stamp : ℕ) (b : Bool) (o : Option Frozen) → FrozenFits c story sub n k sync terminated rows last b o → b ≡ true → IsToldAt c story sub n (made_frozen o n stamp)
frozen_told c story sub n k sync terminated rows last stamp true (Some frozen) h e = (h.made, (h.begins, h.past))
frozen_told c story sub n k sync terminated rows last stamp true None h e = absurd h
frozen_told c story sub n k sync terminated rows last stamp false o h e = absurd (true≢false (sym e))

pub item_told : (c : Content) (story : Story) (receiver n k stamp : ℕ) (track : Track) (t : Told) (item : Item) → Linked c story receiver n k stamp track t → Offered track.feed item → IsToldAt c story track.feed.sub n (item_made c track item n stamp)
item_told c story receiver n k stamp track t Started h o = (tt, here n)
item_told c story receiver n k stamp track t Modified h o = (tt, here n)
item_told c story receiver n k stamp track t Incomplete h o = frozen_told c story track.feed.sub n k track.feed.owed.sync track.feed.owed.terminated t.rows t.last stamp track.feed.owed.incomplete track.frozen h.frozen o
item_told c story receiver n k stamp track t Suspended h o = (tt, here n)
item_told c story receiver n k stamp track t Resumed h o = (tt, here n)
item_told c story receiver n k stamp track t Sync h o = ((h.current, refl), here n)
item_told c story receiver n k stamp track t Terminated h o = (tt, here n)
item_told c story receiver n k stamp track t Changes h o = (window_told c story receiver n k stamp track t h, (h.base, omega arith))
item_told c story receiver n k stamp track t Periodic h o = ((h.current, refl), here n)

-- an incomplete update comes after a full answer, and a suspension after eight of them
frozen_comes_after : (t : Told) (o : Option Frozen) (n stamp : ℕ) → t.met_full ≡ true → ComesAfter t (made_frozen o n stamp).body
frozen_comes_after t None n stamp e = tt
frozen_comes_after t (Some frozen) n stamp e = e

pub comes_after : (c : Content) (story : Story) (receiver n k stamp : ℕ) (track : Track) (t : Told) (item : Item) → Linked c story receiver n k stamp track t → Offered track.feed item → ComesAfter t (item_made c track item n stamp).body
comes_after c story receiver n k stamp track t Started h o = tt
comes_after c story receiver n k stamp track t Modified h o = tt
comes_after c story receiver n k stamp track t Incomplete h o = frozen_comes_after t track.frozen n stamp (h.after_full o)
comes_after c story receiver n k stamp track t Suspended h o = h.after_eight o.1
comes_after c story receiver n k stamp track t Resumed h o = tt
comes_after c story receiver n k stamp track t Sync h o = tt
comes_after c story receiver n k stamp track t Terminated h o = tt
comes_after c story receiver n k stamp track t Changes h o = tt
comes_after c story receiver n k stamp track t Periodic h o = tt
