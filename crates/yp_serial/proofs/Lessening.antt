-- An item that is taken leaves a track fewer offers: it is owed no more, or due no more.
use Rattle.std.proofs.Common.{◌≡◌, ℕ, ◌+◌, ◌<◌, ◌≤◌, refl, sym, ap, subst, ◌∙◌, Bool, true, false, ◌&&◌, List, [], Option, Some, None, arith}
use Rattle.std.specs.Prelude.{if◌then◌else◌, nat_lt, nat_le}
use Rattle.std.proofs.lemmas.Bool.{true≢false, and_right}
use Rattle.std.proofs.lemmas.Option.{same_Some, none-some}
use Rattle.yp_base.specs.declared.notice.Trigger.{Trigger}
use Rattle.yp_base.specs.declared.notice.Trigger.TheVariants.{Periodic as Every, OnChange}
use Rattle.yp_base.specs.declared.row.Row.{Row}
use Rattle.yp_feed.specs.declared.item.Item.{Item}
use Rattle.yp_feed.specs.declared.item.Item.TheVariants.{Started, Modified, Incomplete, Suspended, Resumed, Sync, Terminated, Changes, Periodic}
use Rattle.yp_feed.specs.declared.owed.Owed.{Owed}
use Rattle.yp_feed.specs.Machine.{FeedState, first_of, first_owed, due_item, due_from, due_after, is_at, is_past, without, rebases, refused, counted, suspends, suspended, freezes, frozen}
use Rattle.yp_attempt.specs.Content.{Content, IsLawful}
use Rattle.yp_attempt.specs.Tracks.{Track, Answer, Took, Full, current, roots_in, edit_count, offered_item, with_feed, moving, rebased, after_answer}
use Rattle.yp_attempt.specs.ListLaws.{unblocked}
use Rattle.yp_serial.specs.DueTicks.{HasDueTicks}
use Rattle.yp_serial.specs.Weights.{flag, owed_count, some_count, due_in, weight}

-- ---- what is owed

abbrev owed_of : Bool → Bool → Bool → Bool → Bool → Bool → Bool → Owed
owed_of a b i d r s t = record { started = a; modified = b; incomplete = i; suspended = d; resumed = r; sync = s; terminated = t }

-- an item that was owed is owed no more once it is taken; otherwise nothing was owed, and the item is what is due
abbrev Lessens : Owed → Option Item → Item → Type 0
Lessens o other item = (more : Bool) × (owed_count (without o item) + flag more ≡ owed_count o) × (more ≡ false → (owed_count o ≡ 0) × (other ≡ Some item))

none_left : (item : Item) → owed_count (without (owed_of false false false false false false false) item) + 0 ≡ 0
none_left Started = refl
none_left Modified = refl
none_left Incomplete = refl
none_left Suspended = refl
none_left Resumed = refl
none_left Sync = refl
none_left Terminated = refl
none_left Changes = refl
none_left Periodic = refl

lessens : (a b i d r s t : Bool) (other : Option Item) (item : Item) → first_of a b i d r s t other ≡ Some item → Lessens (owed_of a b i d r s t) other item
lessens true b i d r s t other item e = subst (λ x. Lessens (owed_of true b i d r s t) other x) (same_Some Started item e) (true, omega arith, λ f. absurd (true≢false f))
lessens false true i d r s t other item e = subst (λ x. Lessens (owed_of false true i d r s t) other x) (same_Some Modified item e) (true, omega arith, λ f. absurd (true≢false f))
lessens false false true d r s t other item e = subst (λ x. Lessens (owed_of false false true d r s t) other x) (same_Some Incomplete item e) (true, omega arith, λ f. absurd (true≢false f))
lessens false false false true r s t other item e = subst (λ x. Lessens (owed_of false false false true r s t) other x) (same_Some Suspended item e) (true, omega arith, λ f. absurd (true≢false f))
lessens false false false false true s t other item e = subst (λ x. Lessens (owed_of false false false false true s t) other x) (same_Some Resumed item e) (true, omega arith, λ f. absurd (true≢false f))
lessens false false false false false true t other item e = subst (λ x. Lessens (owed_of false false false false false true t) other x) (same_Some Sync item e) (true, omega arith, λ f. absurd (true≢false f))
lessens false false false false false false true other item e = subst (λ x. Lessens (owed_of false false false false false false true) other x) (same_Some Terminated item e) (true, omega arith, λ f. absurd (true≢false f))
lessens false false false false false false false other item e = (false, none_left item, λ f. (refl, e))

-- ---- what is due

some_at_most : (o : Option Item) → some_count o ≤ 1
some_at_most None = omega arith
some_at_most (Some item) = omega arith

not_later : (stamp due : ℕ) → stamp + 1 ≤ due → nat_le due stamp ≡ false
not_later stamp due e = grind (arith, e)

none_lt : (n : ℕ) → n ≡ 0 → nat_lt 0 n ≡ false
none_lt n e = grind (arith, e)

is_item : (b : Bool) (x item : Item) → (if b then Some x else None) ≡ Some item → x ≡ item
is_item true x item e = same_Some x item e
is_item false x item e = absurd (none-some item e)

-- without a changed place no record is due
no_record : (dampening : ℕ) (last : Option ℕ) (roots edits stamp : ℕ) → roots ≡ 0 → (if is_past last dampening stamp && (nat_lt 0 roots && nat_lt 0 edits) then Some Changes else None) ≡ None
no_record dampening last roots edits stamp e =
    ap (λ (b : Bool). if b then Some Changes else None) (and_right (is_past last dampening stamp) (nat_lt 0 roots && nat_lt 0 edits) (ap (λ (b : Bool). b && nat_lt 0 edits) (none_lt roots e)))

-- what was due is due no more once it is taken
none_due : (trigger : Trigger) (last later : Option ℕ) (due roots edits after left stamp : ℕ) (item : Item) → HasDueTicks trigger → due_item trigger last due roots edits stamp ≡ Some item → (item ≡ Changes → after ≡ 0)
    → due_item trigger later (due_after trigger due item stamp) after left stamp ≡ None
none_due (Every period anchor) last later due roots edits after left stamp item there e f =
    subst (λ (x : Item). due_item (Every period anchor) later (due_after (Every period anchor) due x stamp) after left stamp ≡ None) (is_item (nat_le due stamp) Periodic item e)
    (ap (λ (b : Bool). if b then Some Periodic else None) (not_later stamp (due_from (Every period anchor) (stamp + 1)) (there (stamp + 1))))
none_due (OnChange dampening sync excluded) last later due roots edits after left stamp item there e f =
    no_record dampening later after left stamp (f (sym (is_item (is_past last dampening stamp && (nat_lt 0 roots && nat_lt 0 edits)) Changes item e)))

-- ---- an answer

-- where no attempt at this stamp was full
weight_open : (c : Content) (stamp : ℕ) (t : Track) → is_at t.feed.last_full stamp ≡ false → weight c stamp t ≡ (owed_count t.feed.owed + owed_count t.feed.owed) + some_count (due_in c stamp t)
weight_open c stamp t e = ap (λ (b : Bool). if b then 0 else (owed_count t.feed.owed + owed_count t.feed.owed) + some_count (due_in c stamp t)) e

took_less : (c : Content) (lawful : IsLawful c) (n stamp : ℕ) (t : Track) (item : Item) → HasDueTicks t.feed.trigger → is_at t.feed.last_full stamp ≡ false → Lessens t.feed.owed (due_in c stamp t) item → weight c stamp (after_answer c n stamp t item Took) < weight c stamp t
took_less c lawful n stamp t item there free (true, count, rest) =
    let new : Track = after_answer c n stamp t item Took in
    smaller (weight c stamp t) (weight c stamp new) (owed_count t.feed.owed) (owed_count new.feed.owed) (some_count (due_in c stamp t)) (some_count (due_in c stamp new))
    (weight_open c stamp t free) (weight_open c stamp new free) (some_at_most (due_in c stamp new)) count
  where
    smaller : (w v a b x y : ℕ) → w ≡ (a + a) + x → v ≡ (b + b) + y → y ≤ 1 → b + 1 ≡ a → v < w
    smaller w v a b x y p q r s = omega (arith, p, q, r, s)
took_less c lawful n stamp t item there free (false, count, rest) =
    let new : Track = after_answer c n stamp t item Took in
    let q = rest refl in
    let due : some_count (due_in c stamp t) ≡ 1 = ap some_count q.1 in
    let gone : some_count (due_in c stamp new) ≡ 0 =
    ap some_count (none_due t.feed.trigger t.feed.last_record new.feed.last_record t.feed.due (roots_in c t) (edit_count c t) (roots_in c new) (edit_count c new) stamp item there q.1
    (λ e. ap (λ (x : Item). c.roots (if rebases t.feed x then current t else t.first) (if rebases t.feed x then [] else t.later)) e ∙ lawful.still (current t))) in
    smaller (weight c stamp t) (weight c stamp new) (owed_count t.feed.owed) (owed_count new.feed.owed) (some_count (due_in c stamp t)) (some_count (due_in c stamp new))
    (weight_open c stamp t free) (weight_open c stamp new free) due gone count
  where
    smaller : (w v a b x y : ℕ) → w ≡ (a + a) + x → v ≡ (b + b) + y → x ≡ 1 → y ≡ 0 → b + 0 ≡ a → v < w
    smaller w v a b x y p q r s t = omega (arith, p, q, r, s, t)

if_last_full : (b : Bool) (f g : FeedState) (stamp : ℕ) → f.last_full ≡ Some stamp → g.last_full ≡ Some stamp → (if b then g else f).last_full ≡ Some stamp
if_last_full true f g stamp e q = q
if_last_full false f g stamp e q = e

self_at : (stamp : ℕ) → is_at (Some stamp) stamp ≡ true
self_at stamp = grind arith

-- after a full attempt nothing comes at this stamp
full_at : (c : Content) (n stamp : ℕ) (t : Track) (item : Item) → (after_answer c n stamp t item Full).feed.last_full ≡ Some stamp
full_at c n stamp t item =
    let f : FeedState = refused t.feed item stamp in
    let is : f.last_full ≡ Some stamp = if_last_full (suspends (counted t.feed item stamp)) (counted t.feed item stamp) (suspended (counted t.feed item stamp)) stamp refl refl in
    if_last_full (freezes f (roots_in c (with_feed t f false))) f (frozen f) stamp is is

none_at : (c : Content) (stamp : ℕ) (t : Track) → t.feed.last_full ≡ Some stamp → weight c stamp t ≡ 0
none_at c stamp t e = ap (λ (b : Bool). if b then 0 else (owed_count t.feed.owed + owed_count t.feed.owed) + some_count (due_in c stamp t)) (ap (λ (o : Option ℕ). is_at o stamp) e ∙ self_at stamp)

some_left : (c : Content) (stamp : ℕ) (t : Track) (item : Item) → is_at t.feed.last_full stamp ≡ false → Lessens t.feed.owed (due_in c stamp t) item → 0 < weight c stamp t
some_left c stamp t item free (true, count, rest) = more (weight c stamp t) (owed_count t.feed.owed) (owed_count (without t.feed.owed item)) (some_count (due_in c stamp t)) (weight_open c stamp t free) count
  where
    more : (w a b x : ℕ) → w ≡ (a + a) + x → b + 1 ≡ a → 0 < w
    more w a b x p q = omega (arith, p, q)
some_left c stamp t item free (false, count, rest) = more (weight c stamp t) (owed_count t.feed.owed) (some_count (due_in c stamp t)) (weight_open c stamp t free) (ap some_count (rest refl).1)
  where
    more : (w a x : ℕ) → w ≡ (a + a) + x → x ≡ 1 → 0 < w
    more w a x p q = omega (arith, p, q)

fewer_by : (c : Content) (lawful : IsLawful c) (n stamp : ℕ) (t : Track) (item : Item) (answer : Answer) → HasDueTicks t.feed.trigger → is_at t.feed.last_full stamp ≡ false → Lessens t.feed.owed (due_in c stamp t) item → weight c stamp (after_answer c n stamp t item answer) < weight c stamp t
fewer_by c lawful n stamp t item Took there free less = took_less c lawful n stamp t item there free less
fewer_by c lawful n stamp t item Full there free less = subst (λ (x : ℕ). x < weight c stamp t) (sym (none_at c stamp (after_answer c n stamp t item Full) (full_at c n stamp t item))) (some_left c stamp t item free less)

-- each answer leaves a track fewer offers
pub fewer : (c : Content) (lawful : IsLawful c) (n stamp : ℕ) (t : Track) (item : Item) (answer : Answer) → HasDueTicks t.feed.trigger → offered_item c stamp t ≡ Some item → weight c stamp (after_answer c n stamp t item answer) < weight c stamp t
fewer c lawful n stamp t item answer there e =
    let u = unblocked (is_at t.feed.last_full stamp) (first_owed t.feed.owed (due_in c stamp t)) item e in
    fewer_by c lawful n stamp t item answer there u.0
    (lessens t.feed.owed.started t.feed.owed.modified t.feed.owed.incomplete t.feed.owed.suspended t.feed.owed.resumed t.feed.owed.sync t.feed.owed.terminated (due_in c stamp t) item u.1)

-- ---- a look

due_still : (c : Content) (lawful : IsLawful c) (stamp : ℕ) (trigger : Trigger) (last : Option ℕ) (due edits roots left : ℕ) (rows : List Row) → some_count (due_item trigger last due (c.roots rows []) left stamp) ≤ some_count (due_item trigger last due roots edits stamp)
due_still c lawful stamp (Every period anchor) last due edits roots left rows = omega arith
due_still c lawful stamp (OnChange dampening sync excluded) last due edits roots left rows =
    let none : some_count (due_item (OnChange dampening sync excluded) last due (c.roots rows []) left stamp) ≡ 0 = ap some_count (no_record dampening last (c.roots rows []) left stamp (lawful.still rows)) in
    omega (arith, none)

-- where the base moves
abbrev move_by : ℕ → Track → Bool → Track
move_by n t b = record t { feed = record t.feed { base = if b then n else t.feed.base }; first = if b then current t else t.first; later = if b then [] else t.later }

moved_due : (c : Content) (lawful : IsLawful c) (n stamp : ℕ) (t : Track) (b : Bool) → some_count (due_in c stamp (move_by n t b)) ≤ some_count (due_in c stamp t)
moved_due c lawful n stamp t true = due_still c lawful stamp t.feed.trigger t.feed.last_record t.feed.due (edit_count c t) (roots_in c t) (edit_count c (move_by n t true)) (current t)
moved_due c lawful n stamp t false = omega arith

if_less : (b : Bool) (a x y : ℕ) → x ≤ y → (if b then 0 else (a + x)) ≤ (if b then 0 else (a + y))
if_less true a x y e = omega arith
if_less false a x y e = omega (arith, e)

-- a look that moves the base leaves no more
pub look_no_more : (c : Content) (lawful : IsLawful c) (n stamp : ℕ) (t : Track) → weight c stamp (rebased c n stamp t) ≤ weight c stamp t
look_no_more c lawful n stamp t =
    if_less (is_at t.feed.last_full stamp) (owed_count t.feed.owed + owed_count t.feed.owed) (some_count (due_in c stamp (rebased c n stamp t))) (some_count (due_in c stamp t)) (moved_due c lawful n stamp t (moving c stamp t))
