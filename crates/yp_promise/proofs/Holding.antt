-- What is held of one subscription, and that it is the copy that its attempts tell of.
use Rattle.std.proofs.Common.{◌≡◌, ℕ, ◌==◌, Bool, true, false, ◌&&◌, List, [], ◌∷◌, ◌++◌, Option, Some, None, unwrap_or, refl, sym, ap, ◌∙◌, cond, arith}
use Rattle.std.specs.BTreeMap.{insert_entry}
use Rattle.std.specs.Cmp.{unsigned_tied}
use Rattle.std.specs.List.{AllByRecursion}
use Rattle.std.specs.Ordering.{nat_cmp, is_eq, match_ordering}
use Rattle.std.specs.declared.cmp.Ordering.{Ordering}
use Rattle.std.specs.declared.cmp.Ordering.TheVariants.{Less, Equal, Greater}
use Rattle.std.proofs.lemmas.Bool.{true≢false}
use Rattle.std.proofs.lemmas.Map.Lookups.{exact_unsigned}
use Rattle.yp_base.specs.declared.notice.Notice.{Notice as Message}
use Rattle.yp_base.specs.declared.notice.Notice.TheVariants as notices
use Rattle.yp_base.specs.declared.row.Row.{Row}
use Rattle.yp_base.specs.Rows.{AreInOrder, changed_by, put_rows}
use Rattle.yp_base.specs.RowLaws.{put_to_none}
use Rattle.yp_feed.specs.declared.item.Item.{Item}
use Rattle.yp_feed.specs.declared.item.Item.TheVariants.{Started, Modified, Incomplete, Suspended, Resumed, Sync, Terminated, Changes, Periodic}
use Rattle.yp_attempt.specs.Attempts.{Notification, notification_of, if_taken, taken_of}
use Rattle.yp_attempt.specs.ListLaws.{filter_pass, filter_fail}
use Rattle.yp_attempt.specs.Tracks.{Body, All, Edits, Marked, Notice, Answer, Took, Full, Attempt}
use Rattle.yp_mirror.specs.Heard.{Told, after_attempt, after_body, after_full, heard_all, is_update, of_sub}
use Rattle.yp_moment.specs.Notices.{notice_by, notice_of, state_notice}
use Rattle.yp_moment.specs.Windows.{recorded}
use Rattle.yp_world.specs.Headline.{is_update_of}
use Rattle.yp_receiver.specs.Held.{hears, held_of}
use Rattle.yp_promise.specs.Received.{received}

-- ---- rows that are set

-- the rows that are held of an id after one notification more, from those before it
abbrev pub hears_of : ℕ → Message → Option (List Row) → Option (List Row)
hears_of id (notices.Full other new) rows = cond (other == id) (Some (put_rows new [])) rows
hears_of id (notices.Changes other patch_id changes incomplete) rows = cond (other == id) (Some (changed_by changes (unwrap_or rows []))) rows
hears_of id (notices.Started other) rows = rows
hears_of id (notices.Modified other) rows = rows
hears_of id (notices.Suspended other) rows = rows
hears_of id (notices.Resumed other) rows = rows
hears_of id (notices.Terminated other) rows = rows

-- the same after notifications, in order
abbrev pub received_of : ℕ → Option (List Row) → List Notification → Option (List Row)
received_of id rows [] = rows
received_of id rows (n ∷ more) = received_of id (hears_of id (notice_of n.sub n.made) rows) more

tied : (id other : ℕ) → is_eq (nat_cmp id other) ≡ (other == id)
tied id other = unsigned_tied id other ∙ turned id other
  where
    turned : (a b : ℕ) → (a == b) ≡ (b == a)
    turned a b = grind arith

set_at : (r : Ordering) (id other : ℕ) (rows : List Row) (e : ℕ × List Row) (held : List (ℕ × List Row)) → nat_cmp other e.0 ≡ r
    → held_of id (insert_entry nat_cmp held other rows) ≡ cond (other == id) (Some rows) (held_of id held)
    → held_of id (match_ordering r ((other, rows) ∷ e ∷ held) ((e.0, rows) ∷ held) (e ∷ insert_entry nat_cmp held other rows)) ≡ cond (other == id) (Some rows) (held_of id (e ∷ held))
set_at Less id other rows e held is later = ap (λ b. cond b (Some rows) (held_of id (e ∷ held))) (tied id other)
set_at Equal id other rows e held is later =
    let same : other ≡ e.0 = exact_unsigned other e.0 is in
    ap (λ b. cond b (Some rows) (held_of id held)) (tied id e.0 ∙ ap (λ n. n == id) (sym same))
    ∙ both (other == id) (tied id e.0 ∙ ap (λ n. n == id) (sym same))
  where
    both : (b : Bool) → is_eq (nat_cmp id e.0) ≡ b → cond b (Some rows) (held_of id held) ≡ cond b (Some rows) (cond (is_eq (nat_cmp id e.0)) (Some e.1) (held_of id held))
    both true is = refl
    both false is = sym (ap (λ b. cond b (Some e.1) (held_of id held)) is)
set_at Greater id other rows e held is later = ap (cond (is_eq (nat_cmp id e.0)) (Some e.1)) later ∙ by_place (other == id) refl
  where
    apart : (a b c : ℕ) → nat_cmp a b ≡ Greater → (a == c) ≡ true → is_eq (nat_cmp c b) ≡ false
    apart a b c after same = let one : a ≡ c = grind (arith, same) in ap (λ n. is_eq (nat_cmp n b)) (sym one) ∙ ap is_eq after

    by_place : (b : Bool) → (other == id) ≡ b → cond (is_eq (nat_cmp id e.0)) (Some e.1) (cond b (Some rows) (held_of id held)) ≡ cond b (Some rows) (cond (is_eq (nat_cmp id e.0)) (Some e.1) (held_of id held))
    by_place true same = ap (λ b. cond b (Some e.1) (Some rows)) (apart other e.0 id is same)
    by_place false same = refl

-- the rows of an id where those of one were set
held_set : (id other : ℕ) (rows : List Row) (held : List (ℕ × List Row)) → held_of id (insert_entry nat_cmp held other rows) ≡ cond (other == id) (Some rows) (held_of id held)
held_set id other rows [] = ap (λ b. cond b (Some rows) None) (tied id other)
held_set id other rows (e ∷ held) = set_at (nat_cmp other e.0) id other rows e held refl (held_set id other rows held)

-- only the updates of an id change what is held of it
held_hears : (id : ℕ) (notice : Message) (held : List (ℕ × List Row)) → held_of id (hears notice held) ≡ hears_of id notice (held_of id held)
held_hears id (notices.Full other new) held = held_set id other (put_rows new []) held
held_hears id (notices.Changes other patch_id changes incomplete) held =
    held_set id other (changed_by changes (unwrap_or (held_of other held) [])) held
    ∙ at (other == id) refl
  where
    at : (b : Bool) → (other == id) ≡ b → cond b (Some (changed_by changes (unwrap_or (held_of other held) []))) (held_of id held) ≡ cond b (Some (changed_by changes (unwrap_or (held_of id held) []))) (held_of id held)
    at true same = let one : other ≡ id = grind (arith, same) in ap (λ n. Some (changed_by changes (unwrap_or (held_of n held) []))) one
    at false same = refl
held_hears id (notices.Started other) held = refl
held_hears id (notices.Modified other) held = refl
held_hears id (notices.Suspended other) held = refl
held_hears id (notices.Resumed other) held = refl
held_hears id (notices.Terminated other) held = refl

pub held_received : (id : ℕ) (got : List Notification) (held : List (ℕ × List Row)) → held_of id (received held got) ≡ received_of id (held_of id held) got
held_received id [] held = refl
held_received id (n ∷ got) held = held_received id got (hears (notice_of n.sub n.made) held) ∙ ap (λ rows. received_of id rows got) (held_hears id (notice_of n.sub n.made) held)

pub received_last : (id : ℕ) (rows : Option (List Row)) (got : List Notification) (n : Notification) → received_of id rows (got ++ n ∷ []) ≡ hears_of id (notice_of n.sub n.made) (received_of id rows got)
received_last id rows [] n = refl
received_last id rows (m ∷ got) n = received_last id (hears_of id (notice_of m.sub m.made) rows) got n

-- ---- what is held and what is told of

-- the rows of all that is selected are in order
abbrev pub SaysInOrder : Body → Type 0
SaysInOrder (All rows) = AreInOrder rows
SaysInOrder (Edits edits) = Unit {0}
SaysInOrder (Marked edits) = Unit {0}
SaysInOrder (Notice item) = Unit {0}

-- a change of state leaves what is held of an id, or that nothing is
state_leaves : (id sub n : ℕ) (item : Item) (h : Option (List Row)) → unwrap_or (hears_of id (state_notice sub n item) h) [] ≡ unwrap_or h []
state_leaves id sub n Started h = refl
state_leaves id sub n Modified h = refl
state_leaves id sub n Suspended h = refl
state_leaves id sub n Resumed h = refl
state_leaves id sub n Terminated h = refl
state_leaves id sub n Incomplete h = by (sub == id)
  where
    by : (b : Bool) → unwrap_or (cond b (Some (unwrap_or h [])) h) [] ≡ unwrap_or h []
    by true = refl
    by false = refl
state_leaves id sub n Sync h = by (sub == id)
  where
    by : (b : Bool) → unwrap_or (cond b (Some (unwrap_or h [])) h) [] ≡ unwrap_or h []
    by true = refl
    by false = refl
state_leaves id sub n Changes h = by (sub == id)
  where
    by : (b : Bool) → unwrap_or (cond b (Some (unwrap_or h [])) h) [] ≡ unwrap_or h []
    by true = refl
    by false = refl
state_leaves id sub n Periodic h = by (sub == id)
  where
    by : (b : Bool) → unwrap_or (cond b (Some (unwrap_or h [])) h) [] ≡ unwrap_or h []
    by true = refl
    by false = refl

-- an update of the id that is taken sets both to the same
pub update_sets : (id sub n : ℕ) (body : Body) (h : Option (List Row)) (t : Told) → (sub == id) ≡ true → is_update body ≡ true → SaysInOrder body → unwrap_or h [] ≡ t.rows
    → hears_of id (notice_by sub n body) h ≡ Some (after_body recorded t n body).rows
update_sets id sub n (All rows) h t mine update order same = ap (λ (b : Bool). cond b (Some (put_rows rows [])) h) mine ∙ ap (λ (rows : List Row). Some rows) (put_to_none rows order)
update_sets id sub n (Edits edits) h t mine update order same = ap (λ (b : Bool). cond b (Some (changed_by edits (unwrap_or h []))) h) mine ∙ ap (λ (rows : List Row). Some (changed_by edits rows)) same
update_sets id sub n (Marked edits) h t mine update order same = ap (λ (b : Bool). cond b (Some (changed_by edits (unwrap_or h []))) h) mine ∙ ap (λ (rows : List Row). Some (changed_by edits rows)) same
update_sets id sub n (Notice item) h t mine update order same = absurd (true≢false (sym update))

taken_agrees : (id sub n : ℕ) (body : Body) (h : Option (List Row)) (t : Told) → (sub == id) ≡ true → SaysInOrder body → unwrap_or h [] ≡ t.rows
    → unwrap_or (hears_of id (notice_by sub n body) h) [] ≡ (after_body recorded t n body).rows
taken_agrees id sub n (All rows) h t mine order same = ap (λ (o : Option (List Row)). unwrap_or o []) (update_sets id sub n (All rows) h t mine refl order same)
taken_agrees id sub n (Edits edits) h t mine order same = ap (λ (o : Option (List Row)). unwrap_or o []) (update_sets id sub n (Edits edits) h t mine refl order same)
taken_agrees id sub n (Marked edits) h t mine order same = ap (λ (o : Option (List Row)). unwrap_or o []) (update_sets id sub n (Marked edits) h t mine refl order same)
taken_agrees id sub n (Notice item) h t mine order same = state_leaves id sub n item h ∙ same

-- one of another subscription leaves what is held of the id
other_leaves : (id sub n : ℕ) (body : Body) (h : Option (List Row)) → (sub == id) ≡ false → unwrap_or (hears_of id (notice_by sub n body) h) [] ≡ unwrap_or h []
other_leaves id sub n (All rows) h other = ap (λ (b : Bool). unwrap_or (cond b (Some (put_rows rows [])) h) []) other
other_leaves id sub n (Edits edits) h other = ap (λ (b : Bool). unwrap_or (cond b (Some (changed_by edits (unwrap_or h []))) h) []) other
other_leaves id sub n (Marked edits) h other = ap (λ (b : Bool). unwrap_or (cond b (Some (changed_by edits (unwrap_or h []))) h) []) other
other_leaves id sub n (Notice item) h other = state_leaves id sub n item h

-- ---- attempts

-- what is held of an id by what was taken, and what its attempts tell of, are the same rows
abbrev Agree : ℕ → Option (List Row) → Told → List Attempt → Type 0
Agree id h t xs = unwrap_or (received_of id h (taken_of xs)) [] ≡ (heard_all recorded t (of_sub id xs)).rows

agree_mine : (id : ℕ) (a : Attempt) (xs : List Attempt) (h : Option (List Row)) (t : Told) (answer : Answer) → (a.sub == id) ≡ true → SaysInOrder a.made.body → unwrap_or h [] ≡ t.rows
    → ((g : Option (List Row)) (u : Told) → unwrap_or g [] ≡ u.rows → Agree id g u xs)
    → unwrap_or (received_of id h (if_taken answer (notification_of a) (taken_of xs))) [] ≡ (heard_all recorded (after_attempt recorded t a.made.position a.made.body a.stamp answer) (of_sub id xs)).rows
agree_mine id a xs h t Took mine order same later =
    later (hears_of id (notice_of a.sub a.made) h) (after_body recorded t a.made.position a.made.body) (taken_agrees id a.sub a.made.position a.made.body h t mine order same)
agree_mine id a xs h t Full mine order same later = later h (after_full t a.stamp) same

agree_other : (id : ℕ) (a : Attempt) (xs : List Attempt) (h : Option (List Row)) (t : Told) (answer : Answer) → (a.sub == id) ≡ false → unwrap_or h [] ≡ t.rows
    → ((g : Option (List Row)) (u : Told) → unwrap_or g [] ≡ u.rows → Agree id g u xs)
    → unwrap_or (received_of id h (if_taken answer (notification_of a) (taken_of xs))) [] ≡ (heard_all recorded t (of_sub id xs)).rows
agree_other id a xs h t Took other same later = later (hears_of id (notice_of a.sub a.made) h) t (other_leaves id a.sub a.made.position a.made.body h other ∙ same)
agree_other id a xs h t Full other same later = later h t same

agree_by : (id : ℕ) (a : Attempt) (xs : List Attempt) (h : Option (List Row)) (t : Told) (b : Bool) → (a.sub == id) ≡ b → SaysInOrder a.made.body → unwrap_or h [] ≡ t.rows
    → ((g : Option (List Row)) (u : Told) → unwrap_or g [] ≡ u.rows → Agree id g u xs) → Agree id h t (a ∷ xs)
agree_by id a xs h t true mine order same later =
    agree_mine id a xs h t a.answer mine order same later
    ∙ sym (ap (λ (ys : List Attempt). (heard_all recorded t ys).rows) (filter_pass (λ (x : Attempt). x.sub == id) a xs mine))
agree_by id a xs h t false other order same later =
    agree_other id a xs h t a.answer other same later
    ∙ sym (ap (λ (ys : List Attempt). (heard_all recorded t ys).rows) (filter_fail (λ (x : Attempt). x.sub == id) a xs other))

pub agree_on : (id : ℕ) (xs : List Attempt) (h : Option (List Row)) (t : Told) → AllByRecursion (λ a. SaysInOrder a.made.body) xs → unwrap_or h [] ≡ t.rows → Agree id h t xs
agree_on id [] h t order same = same
agree_on id (a ∷ xs) h t order same = agree_by id a xs h t (a.sub == id) refl order.0 same (λ g u e. agree_on id xs g u order.1 e)

-- ---- no update

-- a body that is no update leaves that none was taken
none_after : (t : Told) (n : ℕ) (body : Body) → is_update body ≡ false → t.last ≡ None → (after_body recorded t n body).last ≡ None
none_after t n (All rows) not_one none = absurd (true≢false not_one)
none_after t n (Edits edits) not_one none = absurd (true≢false not_one)
none_after t n (Marked edits) not_one none = absurd (true≢false not_one)
none_after t n (Notice item) not_one none = none

abbrev NoUpdate : ℕ → List Notification → Type 0
NoUpdate id got = AllByRecursion (λ n. is_update_of id n ≡ false) got

none_mine : (id : ℕ) (a : Attempt) (xs : List Attempt) (t : Told) (answer : Answer) → (a.sub == id) ≡ true → t.last ≡ None → NoUpdate id (if_taken answer (notification_of a) (taken_of xs))
    → ((u : Told) → u.last ≡ None → NoUpdate id (taken_of xs) → (heard_all recorded u (of_sub id xs)).last ≡ None)
    → (heard_all recorded (after_attempt recorded t a.made.position a.made.body a.stamp answer) (of_sub id xs)).last ≡ None
none_mine id a xs t Took mine none all later =
    let not_one : is_update a.made.body ≡ false = sym (ap (λ (b : Bool). b && is_update a.made.body) mine) ∙ all.0 in
    later (after_body recorded t a.made.position a.made.body) (none_after t a.made.position a.made.body not_one none) all.1
none_mine id a xs t Full mine none all later = later (after_full t a.stamp) none all

rest_none : (id : ℕ) (a : Attempt) (xs : List Attempt) (answer : Answer) → NoUpdate id (if_taken answer (notification_of a) (taken_of xs)) → NoUpdate id (taken_of xs)
rest_none id a xs Took all = all.1
rest_none id a xs Full all = all

none_by : (id : ℕ) (a : Attempt) (xs : List Attempt) (t : Told) (b : Bool) → (a.sub == id) ≡ b → t.last ≡ None → NoUpdate id (taken_of (a ∷ xs))
    → ((u : Told) → u.last ≡ None → NoUpdate id (taken_of xs) → (heard_all recorded u (of_sub id xs)).last ≡ None) → (heard_all recorded t (of_sub id (a ∷ xs))).last ≡ None
none_by id a xs t true mine none all later =
    ap (λ (ys : List Attempt). (heard_all recorded t ys).last) (filter_pass (λ (x : Attempt). x.sub == id) a xs mine)
    ∙ none_mine id a xs t a.answer mine none all later
none_by id a xs t false other none all later =
    ap (λ (ys : List Attempt). (heard_all recorded t ys).last) (filter_fail (λ (x : Attempt). x.sub == id) a xs other)
    ∙ later t none (rest_none id a xs a.answer all)

-- where no update of the id was taken, its attempts tell of none
pub none_told : (id : ℕ) (xs : List Attempt) (t : Told) → t.last ≡ None → NoUpdate id (taken_of xs) → (heard_all recorded t (of_sub id xs)).last ≡ None
none_told id [] t none all = none
none_told id (a ∷ xs) t none all = none_by id a xs t (a.sub == id) refl none all (λ u e f. none_told id xs u e f)
