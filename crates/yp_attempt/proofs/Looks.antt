-- What a look at a track changes, and what it leaves.
use Rattle.std.proofs.Common.{◌≡◌, ℕ, refl, sym, ap, ◌∙◌, Bool, true, false, not, ◌&&◌, ◌||◌, List, [], ◌∷◌, map, Option, Some, None, arith}
use Rattle.std.specs.Prelude.{if◌then◌else◌, ◌==◌, nat_lt, option_map}
use Rattle.std.proofs.lemmas.Bool.{true≢false, and_parts, not-true, and_right}
use Rattle.yp_base.specs.declared.notice.Trigger.{Trigger}
use Rattle.yp_base.specs.declared.notice.Trigger.TheVariants.{Periodic as Every, OnChange}
use Rattle.yp_feed.specs.declared.item.Item.{Item}
use Rattle.yp_feed.specs.declared.item.Item.TheVariants.{Changes}
use Rattle.yp_feed.specs.Machine.{FeedState, resyncs, is_on_change, is_at, is_past, is_empty_record, owes, due_item, first_owed, offer_of, freezes, frozen}
use Rattle.yp_feed.specs.MachineLaws.{nothing_owed}
use Rattle.yp_attempt.specs.Content.{Content, IsLawful}
use Rattle.yp_attempt.specs.Tracks.{Track, current, roots_in, record_in, edit_count, offered_item, freeze_tried, moving, rebased}
use Rattle.yp_attempt.specs.Runs.{Found, found_in, first_offer}
use Rattle.yp_attempt.specs.Workers.{ready, found_rebased}
use Rattle.yp_attempt.specs.ListLaws.{by_bool}
use Rattle.yp_attempt.specs.TrackLaws.{moving_idle}

-- ---- the base moves

-- a track whose base moves or stays
abbrev move_by : ℕ → Track → Bool → Track
move_by n t b = record t { feed = record t.feed { base = if b then n else t.feed.base }; first = if b then current t else t.first; later = if b then [] else t.later }

unmoved : (c : Content) (n stamp : ℕ) (t : Track) → moving c stamp t ≡ false → rebased c n stamp t ≡ t
unmoved c n stamp t e = ap (move_by n t) e

moved : (c : Content) (n stamp : ℕ) (t : Track) → moving c stamp t ≡ true → rebased c n stamp t ≡ record t { feed = record t.feed { base = n }; first = current t; later = [] }
moved c n stamp t e = ap (move_by n t) e

moving_flags : (blocked owing empty : Bool) → (not blocked && (not owing && empty)) ≡ true → (owing ≡ false) × (empty ≡ true)
moving_flags blocked owing empty e =
    let a = and_parts (not blocked) _ e in
    let b = and_parts (not owing) empty a.1 in
    (not-true owing b.0, b.1)

none_lt : (n : ℕ) → n ≡ 0 → nat_lt 0 n ≡ false
none_lt n e = grind (arith, e)

-- no record is due where there is no root or no edit
due_none : (trigger : Trigger) (last : Option ℕ) (due roots edits stamp : ℕ) → is_on_change trigger ≡ true → (nat_lt 0 roots && nat_lt 0 edits) ≡ false → due_item trigger last due roots edits stamp ≡ None
due_none (Every period anchor) last due roots edits stamp on e = absurd (true≢false (sym on))
due_none (OnChange dampening sync excluded) last due roots edits stamp on e = ap (λ (b : Bool). if b then Some Changes else None) (and_right (is_past last dampening stamp) (nat_lt 0 roots && nat_lt 0 edits) e)

empty_on : (trigger : Trigger) (last : Option ℕ) (roots edits stamp : ℕ) → is_empty_record trigger last roots edits stamp ≡ true → is_on_change trigger ≡ true
empty_on (Every period anchor) last roots edits stamp e = absurd (true≢false (sym e))
empty_on (OnChange dampening sync excluded) last roots edits stamp e = refl

if_none : (b : Bool) (x : Option Item) → x ≡ None → (if b then None else x) ≡ None
if_none true x e = refl
if_none false x e = e

nothing_due : (f : FeedState) (roots edits stamp : ℕ) → owes f.owed ≡ false → is_on_change f.trigger ≡ true → (nat_lt 0 roots && nat_lt 0 edits) ≡ false → offer_of f roots edits stamp ≡ None
nothing_due f roots edits stamp none on e =
    if_none (is_at f.last_full stamp) (first_owed f.owed (due_item f.trigger f.last_record f.due roots edits stamp))
    (nothing_owed f.owed.started f.owed.modified f.owed.incomplete f.owed.suspended f.owed.resumed f.owed.sync f.owed.terminated (due_item f.trigger f.last_record f.due roots edits stamp) none
    ∙ due_none f.trigger f.last_record f.due roots edits stamp on e)

moved_idle : (c : Content) (lawful : IsLawful c) (n stamp : ℕ) (t : Track) → moving c stamp t ≡ true → offered_item c stamp (rebased c n stamp t) ≡ None
moved_idle c lawful n stamp t e =
    let q = moving_flags (is_at t.feed.last_full stamp) (owes t.feed.owed) (is_empty_record t.feed.trigger t.feed.last_record (roots_in c t) (edit_count c t) stamp) e in
    let on : is_on_change t.feed.trigger ≡ true = empty_on t.feed.trigger t.feed.last_record (roots_in c t) (edit_count c t) stamp q.1 in
    let new : Track = record t { feed = record t.feed { base = n }; first = current t; later = [] } in
    let none : nat_lt 0 (roots_in c new) ≡ false = none_lt (roots_in c new) (lawful.still (current t)) in
    ap (λ (k : Track). offered_item c stamp k) (moved c n stamp t e)
    ∙ nothing_due new.feed (roots_in c new) (edit_count c new) stamp q.0 on (ap (λ (b : Bool). b && nat_lt 0 (edit_count c new)) none)

same_offer : (c : Content) (lawful : IsLawful c) (n stamp : ℕ) (t : Track) → offered_item c stamp (rebased c n stamp t) ≡ offered_item c stamp t
same_offer c lawful n stamp t =
    by_bool (moving c stamp t) (λ e. moved_idle c lawful n stamp t e ∙ sym (moving_idle c stamp t e)) (λ e. ap (λ (k : Track). offered_item c stamp k) (unmoved c n stamp t e))

empty_none : (trigger : Trigger) (last : Option ℕ) (roots edits stamp : ℕ) → roots ≡ 0 → is_empty_record trigger last roots edits stamp ≡ false
empty_none (Every period anchor) last roots edits stamp e = refl
empty_none (OnChange dampening sync excluded) last roots edits stamp e = and_right (is_past last dampening stamp) (nat_lt 0 roots && (edits == 0)) (ap (λ (b : Bool). b && (edits == 0)) (none_lt roots e))

still_there : (c : Content) (lawful : IsLawful c) (n stamp : ℕ) (t : Track) → moving c stamp t ≡ true → moving c stamp (rebased c n stamp t) ≡ false
still_there c lawful n stamp t e =
    let new : Track = record t { feed = record t.feed { base = n }; first = current t; later = [] } in
    ap (λ (k : Track). moving c stamp k) (moved c n stamp t e)
    ∙ and_right (not (is_at new.feed.last_full stamp)) _ (and_right (not (owes new.feed.owed)) _ (empty_none new.feed.trigger new.feed.last_record (roots_in c new) (edit_count c new) stamp (lawful.still (current t))))

rebased_twice : (c : Content) (lawful : IsLawful c) (n stamp : ℕ) (t : Track) → rebased c n stamp (rebased c n stamp t) ≡ rebased c n stamp t
rebased_twice c lawful n stamp t =
    by_bool (moving c stamp t) (λ e. unmoved c n stamp (rebased c n stamp t) (still_there c lawful n stamp t e)) (λ e. ap (rebased c n stamp) (unmoved c n stamp t e))

-- ---- the record is set aside

-- the record isn't to be set aside
abbrev pub IsThawed : Content → Track → Type 0
IsThawed c t = freezes t.feed (roots_in c t) ≡ false

abbrev tried_as : Content → ℕ → ℕ → Track → Bool → Track
tried_as c n stamp t b = record t {
  feed = if b then frozen t.feed else t.feed;
  frozen = if b then Some (record { from = t.feed.base; position = n; tick = stamp; edits = record_in c t }) else t.frozen;
}

thawed_so : (c : Content) (n stamp : ℕ) (t : Track) → IsThawed c t → freeze_tried c n stamp t ≡ t
thawed_so c n stamp t e = ap (tried_as c n stamp t) e

owed_thaws : (on tries roots : Bool) (rest : Bool) → (on && (tries && (roots && not (true || rest)))) ≡ false
owed_thaws on tries roots rest = and_right on _ (and_right tries _ (and_right roots false refl))

pub tried_thaws : (c : Content) (n stamp : ℕ) (t : Track) → IsThawed c (freeze_tried c n stamp t)
tried_thaws c n stamp t = by (freezes t.feed (roots_in c t)) refl
  where
    by : (b : Bool) → freezes t.feed (roots_in c t) ≡ b → freezes (if b then frozen t.feed else t.feed) (roots_in c t) ≡ false
    by true e = owed_thaws (is_on_change t.feed.trigger) (nat_lt 0 t.feed.tries) (nat_lt 256 (roots_in c t)) (t.feed.owed.suspended || (t.feed.owed.resumed || (resyncs t.feed.trigger || t.feed.owed.terminated)))
    by false e = e

few_roots : (on tries : Bool) (roots : ℕ) (rest : Bool) → roots ≡ 0 → (on && (tries && (nat_lt 256 roots && rest))) ≡ false
few_roots on tries roots rest e = and_right on _ (and_right tries _ (ap (λ (b : Bool). b && rest) (few roots e)))
  where
    few : (n : ℕ) → n ≡ 0 → nat_lt 256 n ≡ false
    few n q = grind (arith, q)

rebased_thaws : (c : Content) (lawful : IsLawful c) (n stamp : ℕ) (t : Track) → IsThawed c t → IsThawed c (rebased c n stamp t)
rebased_thaws c lawful n stamp t thawed =
    by_bool (moving c stamp t)
    (λ e. ap (λ (k : Track). freezes k.feed (roots_in c k)) (moved c n stamp t e) ∙ few_roots (is_on_change t.feed.trigger) (nat_lt 0 t.feed.tries) (c.roots (current t) []) _ (lawful.still (current t)))
    (λ e. ap (λ (k : Track). freezes k.feed (roots_in c k)) (unmoved c n stamp t e) ∙ thawed)

no_tries : (on rest : Bool) → (on && (nat_lt 0 0 && rest)) ≡ false
no_tries on rest = and_right on (nat_lt 0 0 && rest) refl

pub untried_thaws : (c : Content) (t : Track) → t.feed.tries ≡ 0 → IsThawed c t
untried_thaws c t e = ap (λ (n : ℕ). freezes (record t.feed { tries = n }) (roots_in c t)) e ∙ no_tries (is_on_change t.feed.trigger) (nat_lt 256 (roots_in c t) && not (t.feed.owed.incomplete || (t.feed.owed.suspended || (t.feed.owed.resumed || (t.feed.owed.sync || t.feed.owed.terminated)))))

-- ---- looking twice

pub ready_thawed : (c : Content) (n stamp : ℕ) (t : Track) → IsThawed c t → ready c n stamp t ≡ rebased c n stamp t
ready_thawed c n stamp t e = ap (rebased c n stamp) (thawed_so c n stamp t e)

pub ready_rebased : (c : Content) (lawful : IsLawful c) (n stamp : ℕ) (t : Track) → IsThawed c t → ready c n stamp (rebased c n stamp t) ≡ rebased c n stamp t
ready_rebased c lawful n stamp t e = ready_thawed c n stamp (rebased c n stamp t) (rebased_thaws c lawful n stamp t e) ∙ rebased_twice c lawful n stamp t

pub ready_twice : (c : Content) (lawful : IsLawful c) (n stamp : ℕ) (t : Track) → ready c n stamp (ready c n stamp t) ≡ ready c n stamp t
ready_twice c lawful n stamp t = ready_rebased c lawful n stamp (freeze_tried c n stamp t) (tried_thaws c n stamp t)

-- ---- lists of tracks

found_again : (c : Content) (n stamp : ℕ) (t : Track) (tracks : List Track) (o : Option Item) (f : Option Found)
    → found_in o (rebased c n stamp t) (map (rebased c n stamp) tracks) (option_map (found_rebased c n stamp) f) ≡ option_map (found_rebased c n stamp) (found_in o t tracks f)
found_again c n stamp t tracks (Some item) f = refl
found_again c n stamp t tracks None None = refl
found_again c n stamp t tracks None (Some found) = refl

pub first_moved : (c : Content) (lawful : IsLawful c) (n stamp : ℕ) (tracks : List Track) → first_offer c stamp (map (rebased c n stamp) tracks) ≡ option_map (found_rebased c n stamp) (first_offer c stamp tracks)
first_moved c lawful n stamp [] = refl
first_moved c lawful n stamp (t ∷ tracks) =
    (λ i. found_in (same_offer c lawful n stamp t i) (rebased c n stamp t) (map (rebased c n stamp) tracks) (first_moved c lawful n stamp tracks i))
    ∙ found_again c n stamp t tracks (offered_item c stamp t) (first_offer c stamp tracks)
