-- What follows for single attempts where all attempts follow.
use Rattle.std.proofs.Common.{◌≡◌, ℕ, ◌≤◌, refl, sym, ap, subst, true, List, [], ◌∷◌, ◌++◌, Option, Some, arith}
use Rattle.std.proofs.lemmas.Bool.{true≢false}
use Rattle.yp_base.specs.declared.row.Row.{Row}
use Rattle.yp_attempt.specs.Content.{Content}
use Rattle.yp_attempt.specs.Tracks.{Body, All, Edits, Marked, Notice, Answer, Took, Full, Attempt, is_taken}
use Rattle.yp_mirror.specs.Heard.{Told, after_attempt, heard, heard_all, is_update, is_full_update, IsTakenUpdate}
use Rattle.yp_mirror.specs.Stories.{Story}
use Rattle.yp_mirror.specs.Following.{IsAtMost, IsUpdate, IsAnswered, Follows, AllFollow}

pub follows_at : (c : Content) (story : Story) (sub : ℕ) (t : Told) (before : List Attempt) (a : Attempt) (later : List Attempt) → AllFollow c story sub t (before ++ a ∷ later) → Follows c story sub (heard_all c t before) a
follows_at c story sub t [] a later h = h.0
follows_at c story sub t (x ∷ before) a later h = follows_at c story sub (heard c t x) before a later h.1

-- ---- updates that are taken

update_answered : (c : Content) (story : Story) (sub : ℕ) (t : Told) (position at : ℕ) (body : Body) (stamp : ℕ) (answer : Answer) → IsAnswered c story sub t position at body stamp answer → is_taken answer ≡ true → is_update body ≡ true
    → IsUpdate story sub t (after_attempt c t position body stamp answer).rows position at (is_full_update body)
update_answered c story sub t position at (All rows) stamp Took h taken update = h
update_answered c story sub t position at (Edits edits) stamp Took h taken update = h
update_answered c story sub t position at (Marked edits) stamp Took h taken update = h
update_answered c story sub t position at (Notice item) stamp Took h taken update = absurd (true≢false (sym update))
update_answered c story sub t position at body stamp Full h taken update = absurd (true≢false (sym taken))

pub update_is : (c : Content) (story : Story) (sub : ℕ) (t : Told) (a : Attempt) → Follows c story sub t a → IsTakenUpdate a → IsUpdate story sub t (heard c t a).rows a.made.position a.at (is_full_update a.made.body)
update_is c story sub t a h is = update_answered c story sub t a.made.position a.at a.made.body a.stamp a.answer h.answer is.taken is.update

-- where all that is selected is awaited, it is what the update says
pub all_said : (c : Content) (t : Told) (position : ℕ) (body : Body) (stamp : ℕ) (answer : Answer) (want : List Row) → is_taken answer ≡ true → is_full_update body ≡ true → (after_attempt c t position body stamp answer).rows ≡ want → body ≡ All want
all_said c t position (All rows) stamp Took want taken whole e = ap (λ (x : List Row). All x) e
all_said c t position (Edits edits) stamp Took want taken whole e = absurd (true≢false (sym whole))
all_said c t position (Marked edits) stamp Took want taken whole e = absurd (true≢false (sym whole))
all_said c t position (Notice item) stamp Took want taken whole e = absurd (true≢false (sym whole))
all_said c t position body stamp Full want taken whole e = absurd (true≢false (sym taken))

-- ---- positions

-- there was an update, and not before a position
record WasFrom (k : ℕ) (last : Option ℕ) : Type 0 where
  pub at : ℕ
  pub is : last ≡ Some at
  pub from : k ≤ at

from_at : (k n : ℕ) (last : Option ℕ) → WasFrom k last → IsAtMost last n → k ≤ n
from_at k n last was h = let le : was.at ≤ n = subst (λ (o : Option ℕ). IsAtMost o n) was.is h in omega (arith, was.from, le)

last_taken : (c : Content) (t : Told) (position : ℕ) (body : Body) (stamp : ℕ) (answer : Answer) → is_taken answer ≡ true → is_update body ≡ true → (after_attempt c t position body stamp answer).last ≡ Some position
last_taken c t position (All rows) stamp Took taken update = refl
last_taken c t position (Edits edits) stamp Took taken update = refl
last_taken c t position (Marked edits) stamp Took taken update = refl
last_taken c t position (Notice item) stamp Took taken update = absurd (true≢false (sym update))
last_taken c t position body stamp Full taken update = absurd (true≢false (sym taken))

from_later : (c : Content) (story : Story) (sub k : ℕ) (t : Told) (position at : ℕ) (body : Body) (stamp : ℕ) (answer : Answer) → IsAnswered c story sub t position at body stamp answer → WasFrom k t.last → WasFrom k (after_attempt c t position body stamp answer).last
from_later c story sub k t position at (All rows) stamp Took h was = record { at = position; is = refl; from = from_at k position t.last was h.rises }
from_later c story sub k t position at (Edits edits) stamp Took h was = record { at = position; is = refl; from = from_at k position t.last was h.rises }
from_later c story sub k t position at (Marked edits) stamp Took h was = record { at = position; is = refl; from = from_at k position t.last was h.rises }
from_later c story sub k t position at (Notice item) stamp Took h was = was
from_later c story sub k t position at body stamp Full h was = was

not_before : (c : Content) (story : Story) (sub k : ℕ) (t : Told) (between : List Attempt) (b : Attempt) (later : List Attempt) → AllFollow c story sub t (between ++ b ∷ later) → WasFrom k t.last → IsTakenUpdate b → k ≤ b.made.position
not_before c story sub k t [] b later h was is = from_at k b.made.position t.last was (update_is c story sub t b h.0 is).rises
not_before c story sub k t (x ∷ between) b later h was is =
    not_before c story sub k (heard c t x) between b later h.1 (from_later c story sub k t x.made.position x.at x.made.body x.stamp x.answer h.0.answer was) is

-- an update isn't made before an earlier one
pub positions_rise : (c : Content) (story : Story) (sub : ℕ) (t : Told) (before : List Attempt) (a : Attempt) (between : List Attempt) (b : Attempt) (later : List Attempt) → AllFollow c story sub t (before ++ a ∷ (between ++ b ∷ later)) → IsTakenUpdate a → IsTakenUpdate b → a.made.position ≤ b.made.position
positions_rise c story sub t [] a between b later h one two =
    let was : WasFrom a.made.position (heard c t a).last = record { at = a.made.position; is = last_taken c t a.made.position a.made.body a.stamp a.answer one.taken one.update; from = omega arith } in
    not_before c story sub a.made.position (heard c t a) between b later h.1 was two
positions_rise c story sub t (x ∷ before) a between b later h one two = positions_rise c story sub (heard c t x) before a between b later h.1 one two
