-- How the machine of a feed reads the number of changed places and the number of edits.
use Rattle.std.proofs.Common.{◌≡◌, ℕ, refl, sym, ap, ◌∙◌, Bool, true, false, true≢false, not, ◌&&◌, ◌||◌, ◌⊎◌, inl, inr, Option, Some, None, arith}
use Rattle.std.specs.Prelude.{if◌then◌else◌, ◌==◌, nat_lt, nat_le, min}
use Rattle.std.proofs.lemmas.Bool.{and_parts, not-true, or_parts, and_right}
use Rattle.yp_base.specs.declared.notice.Trigger.{Trigger}
use Rattle.yp_base.specs.declared.notice.Trigger.TheVariants.{Periodic as Every, OnChange}
use Rattle.yp_feed.specs.declared.item.Item.{Item}
use Rattle.yp_feed.specs.declared.item.Item.TheVariants.{Changes, Periodic}
use Rattle.yp_feed.specs.Machine.{FeedState, is_on_change, is_at, is_past, due_item, first_of, first_owed, freezes, moves, offer_of, owes, is_empty_record}
use Rattle.yp_feed.specs.MachineLaws.{IsUnread, unread, nothing_owed}
use Rattle.yp_attempt.specs.ListLaws.{by_bool}

-- ---- a number that is cut off

-- a number, or the greatest number of 32 bits
abbrev pub capped : ℕ → ℕ
capped n = min n 4294967295

pub capped_some : (n : ℕ) → nat_lt 0 (capped n) ≡ nat_lt 0 n
capped_some n = grind arith

pub capped_many : (n : ℕ) → nat_lt 256 (capped n) ≡ nat_lt 256 n
capped_many n = grind arith

pub none_lt : (n : ℕ) → n ≡ 0 → nat_lt 0 n ≡ false
none_lt n e = grind (arith, e)

pub some_lt : (n : ℕ) → (n == 0) ≡ false → nat_lt 0 n ≡ true
some_lt n e = grind (arith, e)

-- ---- numbers that are not read

-- of a feed that isn't on change no number is read
periodic_due : (t : Trigger) (last : Option ℕ) (due r e q d stamp : ℕ) → is_on_change t ≡ false → due_item t last due r e stamp ≡ due_item t last due q d stamp
periodic_due (Every period anchor) last due r e q d stamp off = refl
periodic_due (OnChange dampening sync excluded) last due r e q d stamp off = absurd (true≢false off)

periodic_full : (t : Trigger) (last : Option ℕ) (r e stamp : ℕ) → is_on_change t ≡ false → is_empty_record t last r e stamp ≡ false
periodic_full (Every period anchor) last r e stamp off = refl
periodic_full (OnChange dampening sync excluded) last r e stamp off = absurd (true≢false off)

off_frozen : (f : FeedState) (r : ℕ) → is_on_change f.trigger ≡ false → freezes f r ≡ false
off_frozen f r off = ap (λ (b : Bool). b && (nat_lt 0 f.tries && (nat_lt 256 r && not (f.owed.incomplete || (f.owed.suspended || (f.owed.resumed || (f.owed.sync || f.owed.terminated))))))) off

off_moves : (f : FeedState) (r e stamp : ℕ) → is_on_change f.trigger ≡ false → moves f r e stamp ≡ false
off_moves f r e stamp off = and_right (not (is_at f.last_full stamp)) _ (and_right (not (owes f.owed)) _ (periodic_full f.trigger f.last_record r e stamp off))

periodic_unread : (f : FeedState) (stamp r e q d : ℕ) → is_on_change f.trigger ≡ false → IsUnread f stamp r e q d
periodic_unread f stamp r e q d off = record {
  freeze = off_frozen f r off ∙ sym (off_frozen f q off);
  offers = ap (λ (o : Option Item). if is_at f.last_full stamp then None else first_owed f.owed o) (periodic_due f.trigger f.last_record f.due r e q d stamp off);
  looks = off_moves f r e stamp off ∙ sym (off_moves f q d stamp off);
}

-- numbers may be read only of a feed on change that owes neither all that it selects nor its end
pub unread_or : (f : FeedState) → ((stamp r e q d : ℕ) → IsUnread f stamp r e q d) ⊎ ((is_on_change f.trigger ≡ true) × ((f.owed.sync || f.owed.terminated) ≡ false))
unread_or f =
    by_bool (is_on_change f.trigger)
    (λ on. by_bool (f.owed.sync || f.owed.terminated) (λ owed. inl (λ stamp r e q d. unread f stamp r e q d owed)) (λ free. inr (on, free)))
    (λ off. inl (λ stamp r e q d. periodic_unread f stamp r e q d off))

not_or : (a b : Bool) → not (a || b) ≡ true → not b ≡ true
not_or true b e = absurd (true≢false (sym e))
not_or false b e = e

-- what is set aside is of a feed on change that owes neither
pub freezes_read : (f : FeedState) (r : ℕ) → freezes f r ≡ true → (is_on_change f.trigger ≡ true) × ((f.owed.sync || f.owed.terminated) ≡ false)
freezes_read f r e =
    let one = and_parts (is_on_change f.trigger) _ e in
    let two = and_parts (nat_lt 0 f.tries) _ one.1 in
    let three = and_parts (nat_lt 256 r) _ two.1 in
    (one.0, not-true _ (not_or f.owed.resumed _ (not_or f.owed.suspended _ (not_or f.owed.incomplete _ three.1))))

-- ---- other numbers of places that are as few or as many

due_roots : (t : Trigger) (last : Option ℕ) (due r q e stamp : ℕ) → nat_lt 0 q ≡ nat_lt 0 r → due_item t last due q e stamp ≡ due_item t last due r e stamp
due_roots (Every period anchor) last due r q e stamp same = refl
due_roots (OnChange dampening sync excluded) last due r q e stamp same = ap (λ (b : Bool). if is_past last dampening stamp && (b && nat_lt 0 e) then Some Changes else None) same

pub same_offer : (f : FeedState) (r q e stamp : ℕ) → nat_lt 0 q ≡ nat_lt 0 r → offer_of f q e stamp ≡ offer_of f r e stamp
same_offer f r q e stamp same = ap (λ (o : Option Item). if is_at f.last_full stamp then None else first_owed f.owed o) (due_roots f.trigger f.last_record f.due r q e stamp same)

pub same_freeze : (f : FeedState) (r q : ℕ) → nat_lt 256 q ≡ nat_lt 256 r → freezes f q ≡ freezes f r
same_freeze f r q same = ap (λ (b : Bool). is_on_change f.trigger && (nat_lt 0 f.tries && (b && not (f.owed.incomplete || (f.owed.suspended || (f.owed.resumed || (f.owed.sync || f.owed.terminated))))))) same

-- ---- an offer as if its record had one edit

empty_one : (t : Trigger) (last : Option ℕ) (r stamp : ℕ) → is_empty_record t last r 1 stamp ≡ false
empty_one (Every period anchor) last r stamp = refl
empty_one (OnChange dampening sync excluded) last r stamp = and_right (is_past last dampening stamp) _ (and_right (nat_lt 0 r) false refl)

-- a feed with an edit doesn't move its base
pub stays_with_one : (f : FeedState) (r stamp : ℕ) → moves f r 1 stamp ≡ false
stays_with_one f r stamp = and_right (not (is_at f.last_full stamp)) _ (and_right (not (owes f.owed)) _ (empty_one f.trigger f.last_record r stamp))

-- an item, where it isn't of changes
abbrev pub IsOther : Option Item → Type 0
IsOther item = item ≡ Some Changes → ⊥

owed_first : (a b i d r s t : Bool) (one two : Option Item) → (a || (b || (i || (d || (r || (s || t)))))) ≡ true → first_of a b i d r s t one ≡ first_of a b i d r s t two
owed_first true b i d r s t one two e = refl
owed_first false true i d r s t one two e = refl
owed_first false false true d r s t one two e = refl
owed_first false false false true r s t one two e = refl
owed_first false false false false true s t one two e = refl
owed_first false false false false false true t one two e = refl
owed_first false false false false false false true one two e = refl
owed_first false false false false false false false one two e = absurd (true≢false (sym e))

no_changes : (past some : Bool) → IsOther (if past && (some && true) then Some Changes else None) → (more : Bool) → (past && (some && more)) ≡ false
no_changes true true other more = absurd (other refl)
no_changes true false other more = refl
no_changes false some other more = refl

-- where nothing is owed and no record would be offered with an edit, none is due
record Unmoved (t : Trigger) (last : Option ℕ) (at r e stamp : ℕ) : Type 0 where
  due : due_item t last at r e stamp ≡ due_item t last at r 1 stamp
  full : is_empty_record t last r e stamp ≡ false

unmoved_due : (t : Trigger) (last : Option ℕ) (due r e stamp : ℕ) → IsOther (due_item t last due r 1 stamp) → Unmoved t last due r e stamp
unmoved_due (Every period anchor) last due r e stamp other = record { due = refl; full = refl }
unmoved_due (OnChange dampening sync excluded) last due r e stamp other =
    let none = no_changes (is_past last dampening stamp) (nat_lt 0 r) other in
    record {
      due = (λ i. if none (nat_lt 0 e) i then Some Changes else None) ∙ sym (λ i. if none true i then Some Changes else None);
      full = none (e == 0);
    }

-- what is offered is the same with any number of edits, and the base stays
pub record IsSame (f : FeedState) (stamp r e : ℕ) (item : Option Item) : Type 0 where
  pub offers : offer_of f r e stamp ≡ item
  pub stays : moves f r e stamp ≡ false

other_item : (at : Bool) (o : Option Item) → at ≡ false → IsOther (if at then None else o) → IsOther o
other_item true o e other = absurd (true≢false e)
other_item false o e other = other

pub same_with_edits : (f : FeedState) (stamp r e : ℕ) → IsOther (offer_of f r 1 stamp) → IsSame f stamp r e (offer_of f r 1 stamp)
same_with_edits f stamp r e other =
    by_bool (is_at f.last_full stamp)
    (λ at. record {
      offers = (λ i. if at i then None else first_owed f.owed (due_item f.trigger f.last_record f.due r e stamp)) ∙ sym (λ i. if at i then None else first_owed f.owed (due_item f.trigger f.last_record f.due r 1 stamp));
      stays = ap (λ (b : Bool). not b && (not (owes f.owed) && is_empty_record f.trigger f.last_record r e stamp)) at;
    })
    (λ free. by_bool (owes f.owed)
    (λ owed. record {
      offers = ap (λ (o : Option Item). if is_at f.last_full stamp then None else o)
          (owed_first f.owed.started f.owed.modified f.owed.incomplete f.owed.suspended f.owed.resumed f.owed.sync f.owed.terminated
          (due_item f.trigger f.last_record f.due r e stamp) (due_item f.trigger f.last_record f.due r 1 stamp) owed);
      stays = and_right (not (is_at f.last_full stamp)) _ (ap (λ (b : Bool). not b && is_empty_record f.trigger f.last_record r e stamp) owed);
    })
    (λ idle.
    let first = nothing_owed f.owed.started f.owed.modified f.owed.incomplete f.owed.suspended f.owed.resumed f.owed.sync f.owed.terminated (due_item f.trigger f.last_record f.due r 1 stamp) idle in
    let item : IsOther (first_owed f.owed (due_item f.trigger f.last_record f.due r 1 stamp)) = other_item (is_at f.last_full stamp) _ free other in
    let same = unmoved_due f.trigger f.last_record f.due r e stamp (λ is. item (first ∙ is)) in
    record {
      offers = ap (λ (o : Option Item). if is_at f.last_full stamp then None else first_owed f.owed o) same.due;
      stays = and_right (not (is_at f.last_full stamp)) _ (and_right (not (owes f.owed)) _ same.full);
    }))

-- ---- a record that would be offered with an edit

none_first : (a b i d r s t : Bool) (other : Option Item) → first_of a b i d r s t other ≡ Some Changes → (a || (b || (i || (d || (r || (s || t)))))) ≡ false
none_first true b i d r s t other e = absurd cc
none_first false true i d r s t other e = absurd cc
none_first false false true d r s t other e = absurd cc
none_first false false false true r s t other e = absurd cc
none_first false false false false true s t other e = absurd cc
none_first false false false false false true t other e = absurd cc
none_first false false false false false false true other e = absurd cc
none_first false false false false false false false other e = refl

at_none : (at : Bool) (o : Option Item) → (if at then None else o) ≡ Some Changes → (at ≡ false) × (o ≡ Some Changes)
at_none true o e = absurd cc
at_none false o e = (refl, e)

due_parts : (past some : Bool) → (if past && (some && true) then Some Changes else None) ≡ Some Changes → (past ≡ true) × (some ≡ true)
due_parts true true e = (refl, refl)
due_parts true false e = absurd cc
due_parts false some e = absurd cc

-- of which trigger a record would be due, and what is due by the number of edits
record IsDue (t : Trigger) (last : Option ℕ) (due r stamp : ℕ) : Type 0 where
  on_change : is_on_change t ≡ true
  items : (e : ℕ) → due_item t last due r e stamp ≡ (if nat_lt 0 e then Some Changes else None)
  empty : (e : ℕ) → is_empty_record t last r e stamp ≡ (e == 0)

periodic_item : (b : Bool) → (if b then Some Periodic else None) ≡ Some Changes → ⊥
periodic_item true e = cc
periodic_item false e = cc

due_record : (t : Trigger) (last : Option ℕ) (due r stamp : ℕ) → due_item t last due r 1 stamp ≡ Some Changes → IsDue t last due r stamp
due_record (Every period anchor) last due r stamp e = absurd (periodic_item (nat_le due stamp) e)
due_record (OnChange dampening sync excluded) last due r stamp e =
    let parts = due_parts (is_past last dampening stamp) (nat_lt 0 r) e in
    record {
      on_change = refl;
      items = λ edits. λ i. if parts.0 i && (parts.1 i && nat_lt 0 edits) then Some Changes else None;
      empty = λ edits. λ i. parts.0 i && (parts.1 i && (edits == 0));
    }

-- a feed whose record would be offered with an edit: on change, it owes nothing; with no edit its base moves, and else the record is offered
pub record IsDueNow (f : FeedState) (stamp r : ℕ) : Type 0 where
  pub on_change : is_on_change f.trigger ≡ true
  pub idle : owes f.owed ≡ false
  pub unowed : (f.owed.sync || f.owed.terminated) ≡ false
  pub offers : (e : ℕ) → nat_lt 0 e ≡ true → offer_of f r e stamp ≡ Some Changes
  pub stays : (e : ℕ) → (e == 0) ≡ false → moves f r e stamp ≡ false
  pub none : (e : ℕ) → nat_lt 0 e ≡ false → offer_of f r e stamp ≡ None
  pub moves : (e : ℕ) → (e == 0) ≡ true → moves f r e stamp ≡ true

idle_owes : (a b i d r s t : Bool) → (a || (b || (i || (d || (r || (s || t)))))) ≡ false → (s || t) ≡ false
idle_owes a b i d r s t e = (or_parts r (s || t) (or_parts d _ (or_parts i _ (or_parts b _ (or_parts a _ e).1).1).1).1).1

pub due_now : (f : FeedState) (stamp r : ℕ) → offer_of f r 1 stamp ≡ Some Changes → IsDueNow f stamp r
due_now f stamp r e =
    let at = at_none (is_at f.last_full stamp) _ e in
    let idle = none_first f.owed.started f.owed.modified f.owed.incomplete f.owed.suspended f.owed.resumed f.owed.sync f.owed.terminated (due_item f.trigger f.last_record f.due r 1 stamp) at.1 in
    let first = nothing_owed f.owed.started f.owed.modified f.owed.incomplete f.owed.suspended f.owed.resumed f.owed.sync f.owed.terminated (due_item f.trigger f.last_record f.due r 1 stamp) idle in
    let due = due_record f.trigger f.last_record f.due r stamp (sym first ∙ at.1) in
    let offer : (edits : ℕ) → offer_of f r edits stamp ≡ (if nat_lt 0 edits then Some Changes else None) = λ edits.
    (λ i. if at.0 i then None else first_owed f.owed (due_item f.trigger f.last_record f.due r edits stamp))
    ∙ nothing_owed f.owed.started f.owed.modified f.owed.incomplete f.owed.suspended f.owed.resumed f.owed.sync f.owed.terminated (due_item f.trigger f.last_record f.due r edits stamp) idle
    ∙ due.items edits in
    let move : (edits : ℕ) → moves f r edits stamp ≡ (edits == 0) = λ edits. λ i. not (at.0 i) && (not (idle i) && due.empty edits i) in
    record {
      on_change = due.on_change;
      idle = idle;
      unowed = idle_owes f.owed.started f.owed.modified f.owed.incomplete f.owed.suspended f.owed.resumed f.owed.sync f.owed.terminated idle;
      offers = λ edits some. offer edits ∙ ap (λ (b : Bool). if b then Some Changes else None) some;
      stays = λ edits some. move edits ∙ some;
      none = λ edits none. offer edits ∙ ap (λ (b : Bool). if b then Some Changes else None) none;
      moves = λ edits none. move edits ∙ none;
    }

-- nothing changed, so nothing is offered
pub nothing_due : (f : FeedState) (stamp e : ℕ) → is_on_change f.trigger ≡ true → owes f.owed ≡ false → offer_of f 0 e stamp ≡ None
nothing_due f stamp e on idle =
    by_at (is_at f.last_full stamp) _ (nothing_owed f.owed.started f.owed.modified f.owed.incomplete f.owed.suspended f.owed.resumed f.owed.sync f.owed.terminated (due_item f.trigger f.last_record f.due 0 e stamp) idle ∙ nothing f.trigger on)
  where
    by_at : (b : Bool) (o : Option Item) → o ≡ None → (if b then None else o) ≡ None
    by_at true o e = refl
    by_at false o e = e

    nothing : (t : Trigger) → is_on_change t ≡ true → due_item t f.last_record f.due 0 e stamp ≡ None
    nothing (Every period anchor) on = absurd (true≢false (sym on))
    nothing (OnChange dampening sync excluded) on = ap (λ (b : Bool). if b then Some Changes else None) (and_right (is_past f.last_record dampening stamp) false refl)
