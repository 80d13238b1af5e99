-- What follows of the machine of a feed.
use Rattle.std.proofs.Common.{◌≡◌, ℕ, ◌<◌, ◌+◌, refl, sym, ap, ◌∙◌, Bool, true, false, true≢false, not, ◌&&◌, ◌||◌, Option, None, arith}
use Rattle.std.specs.Prelude.{if◌then◌else◌, nat_lt, ◌↔◌, min}
use Rattle.std.proofs.lemmas.Bool.{and_parts, ltb-true, and_right, or_right}
use Rattle.yp_feed.specs.declared.item.Item.{Item}
use Rattle.yp_feed.specs.declared.item.Item.TheVariants.{Started, Modified, Incomplete, Suspended, Resumed, Sync, Terminated, Changes, Periodic}
use Rattle.yp_feed.specs.Machine.{FeedState, is_on_change, is_at, due_item, first_of, freezes, moves, offer_of, owes, is_empty_record, refused, taken}

-- with other numbers of changed places and of edits a feed does the same
pub record IsUnread (f : FeedState) (stamp roots edits other_roots other_edits : ℕ) : Type 0 where
  pub freeze : freezes f roots ≡ freezes f other_roots
  pub offers : offer_of f roots edits stamp ≡ offer_of f other_roots other_edits stamp
  pub looks : moves f roots edits stamp ≡ moves f other_roots other_edits stamp

-- a full queue suspends a feed exactly where it is the eighth in a row
abbrev pub SuspendsAtEight : FeedState → Item → ℕ → Type 0
SuspendsAtEight f item stamp = ((refused f item stamp).suspended ≡ true) ↔ (min 8 (f.tries + 1) ≡ 8)

owed_first : (a b i d r s t : Bool) (one two : Option Item) → (s || t) ≡ true → first_of a b i d r s t one ≡ first_of a b i d r s t two
owed_first true b i d r s t one two e = refl
owed_first false true i d r s t one two e = refl
owed_first false false true d r s t one two e = refl
owed_first false false false true r s t one two e = refl
owed_first false false false false true s t one two e = refl
owed_first false false false false false true t one two e = refl
owed_first false false false false false false true one two e = refl
owed_first false false false false false false false one two e = absurd (true≢false (sym e))

not_frozen : (f : FeedState) (roots : ℕ) → (f.owed.sync || f.owed.terminated) ≡ true → freezes f roots ≡ false
not_frozen f roots e =
    let owed : (f.owed.incomplete || (f.owed.suspended || (f.owed.resumed || (f.owed.sync || f.owed.terminated)))) ≡ true =
    or_right f.owed.incomplete _ (or_right f.owed.suspended _ (or_right f.owed.resumed _ e)) in
    and_right (is_on_change f.trigger) _ (and_right (nat_lt 0 f.tries) _ (and_right (nat_lt 256 roots) _ (ap not owed)))

not_moved : (f : FeedState) (roots edits stamp : ℕ) → (f.owed.sync || f.owed.terminated) ≡ true → moves f roots edits stamp ≡ false
not_moved f roots edits stamp e =
    let owed : owes f.owed ≡ true = or_right f.owed.started _ (or_right f.owed.modified _ (or_right f.owed.incomplete _ (or_right f.owed.suspended _ (or_right f.owed.resumed _ e)))) in
    and_right (not (is_at f.last_full stamp)) _ (ap (λ (b : Bool). not b && is_empty_record f.trigger f.last_record roots edits stamp) owed)

-- where all that is selected or the end is owed, the numbers are not read
pub unread : (f : FeedState) (stamp roots edits other_roots other_edits : ℕ) → (f.owed.sync || f.owed.terminated) ≡ true → IsUnread f stamp roots edits other_roots other_edits
unread f stamp roots edits other_roots other_edits e = record {
  freeze = not_frozen f roots e ∙ sym (not_frozen f other_roots e);
  offers = ap (λ (o : Option Item). if is_at f.last_full stamp then None else o)
      (owed_first f.owed.started f.owed.modified f.owed.incomplete f.owed.suspended f.owed.resumed f.owed.sync f.owed.terminated
      (due_item f.trigger f.last_record f.due roots edits stamp) (due_item f.trigger f.last_record f.due other_roots other_edits stamp) e);
  looks = not_moved f roots edits stamp e ∙ sym (not_moved f other_roots other_edits stamp e);
}

-- what is set aside came after a full attempt, and is of more than 256 places
pub frozen_after_full : (f : FeedState) (roots : ℕ) → freezes f roots ≡ true → (0 < f.tries) × (256 < roots)
frozen_after_full f roots e =
    let one = and_parts (is_on_change f.trigger) _ e in
    let two = and_parts (nat_lt 0 f.tries) _ one.1 in
    let three = and_parts (nat_lt 256 roots) _ two.1 in
    (ltb-true 0 f.tries two.0, ltb-true 256 roots three.0)

-- the eighth full attempt in a row suspends
pub suspended_at_eight : (f : FeedState) (item : Item) (stamp : ℕ) → f.suspended ≡ false → f.owed.terminated ≡ false → SuspendsAtEight f item stamp
suspended_at_eight f item stamp free lives = grind arith

-- an item that is taken ends the row, and suspends no feed
pub taken_again : (f : FeedState) (item : Item) (n stamp : ℕ) → ((taken f item n stamp).tries ≡ 0) × ((taken f item n stamp).suspended ≡ true → f.suspended ≡ true)
taken_again f item n stamp = (refl, λ e. by_item item f.suspended e)
  where
    by_item : (item : Item) (b : Bool) → (taken (record f { suspended = b }) item n stamp).suspended ≡ true → b ≡ true
    by_item Started b e = e
    by_item Modified b e = e
    by_item Incomplete b e = e
    by_item Suspended b e = e
    by_item Resumed b e = absurd (true≢false (sym e))
    by_item Sync b e = e
    by_item Terminated b e = e
    by_item Changes b e = e
    by_item Periodic b e = e

-- a feed that owes nothing offers what else there is
pub nothing_owed : (started modified incomplete suspended resumed sync terminated : Bool) (other : Option Item) → (started || (modified || (incomplete || (suspended || (resumed || (sync || terminated)))))) ≡ false
    → first_of started modified incomplete suspended resumed sync terminated other ≡ other
nothing_owed true modified incomplete suspended resumed sync terminated other e = absurd (true≢false e)
nothing_owed false true incomplete suspended resumed sync terminated other e = absurd (true≢false e)
nothing_owed false false true suspended resumed sync terminated other e = absurd (true≢false e)
nothing_owed false false false true resumed sync terminated other e = absurd (true≢false e)
nothing_owed false false false false true sync terminated other e = absurd (true≢false e)
nothing_owed false false false false false true terminated other e = absurd (true≢false e)
nothing_owed false false false false false false true other e = absurd (true≢false e)
nothing_owed false false false false false false false other e = refl
