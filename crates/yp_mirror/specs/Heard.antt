-- What a receiver knows of one subscription by its attempts (RFC 8641 sections 3.7 and 3.11.1, RFC 8639 section 2.7).
use Rattle.std.specs.Prelude.{◌≡◌, ℕ, ◌+◌, ◌==◌, nat_le, Bool, true, false, not, ◌&&◌, ◌||◌, List, [], ◌∷◌, filter, Option, Some, None}
use Rattle.yp_base.specs.declared.row.Row.{Row}
use Rattle.yp_feed.specs.Machine.{is_resumed}
use Rattle.yp_attempt.specs.Content.{Content}
use Rattle.yp_attempt.specs.Tracks.{Body, All, Edits, Marked, Notice, Answer, Took, Full, Attempt, is_taken}

-- the rows of the receiver's copy, the position at which the last update was made that it took, its full answers in a row, the stamp of the last full answer, whether one came after the last update, whether eight came in a row since the receiver was last told that the subscription goes on, and whether all that is selected must come before any other update
pub record Told : Type 0 where
  pub rows : List Row
  pub last : Option ℕ
  pub fulls : ℕ
  pub last_full : Option ℕ
  pub met_full : Bool
  pub met_eight : Bool
  pub awaits : Bool

-- before the first attempt
abbrev pub told_nothing : Told
told_nothing = record { rows = []; last = None; fulls = 0; last_full = None; met_full = false; met_eight = false; awaits = false }

-- what was made at a position is taken: all that is selected takes the place of the copy, edits change it, and edits that are marked as not all leave more to come
abbrev pub after_body : Content → Told → ℕ → Body → Told
after_body c t position (All rows) = record t { rows = rows; last = Some position; fulls = 0; met_full = false; awaits = false }
after_body c t position (Edits edits) = record t { rows = c.received t.rows edits; last = Some position; fulls = 0; met_full = false }
after_body c t position (Marked edits) = record t { rows = c.received t.rows edits; last = Some position; fulls = 0; met_full = false; awaits = true }
after_body c t position (Notice item) = record t { fulls = 0; met_eight = not (is_resumed item) && t.met_eight }

-- the queue is full: the eighth time in a row leaves all that is selected to come
abbrev pub after_full : Told → ℕ → Told
after_full t stamp = record t { fulls = t.fulls + 1; last_full = Some stamp; met_full = true; met_eight = t.met_eight || nat_le 8 (t.fulls + 1); awaits = t.awaits || nat_le 8 (t.fulls + 1) }

-- what was made at a position is answered at a stamp
abbrev pub after_attempt : Content → Told → ℕ → Body → ℕ → Answer → Told
after_attempt c t position body stamp Took = after_body c t position body
after_attempt c t position body stamp Full = after_full t stamp

-- one attempt more
abbrev pub heard : Content → Told → Attempt → Told
heard c t a = after_attempt c t a.made.position a.made.body a.stamp a.answer

-- attempts, in order
abbrev pub heard_all : Content → Told → List Attempt → Told
heard_all c t [] = t
heard_all c t (a ∷ later) = heard_all c (heard c t a) later

-- what is known by these attempts alone
abbrev pub told_by : Content → List Attempt → Told
told_by c attempts = heard_all c told_nothing attempts

-- the attempts of one subscription
abbrev pub of_sub : ℕ → List Attempt → List Attempt
of_sub sub attempts = filter (λ a. a.sub == sub) attempts

-- ---- kinds of attempts

-- whether what is said is all that is selected
abbrev pub is_full_update : Body → Bool
is_full_update (All rows) = true
is_full_update (Edits edits) = false
is_full_update (Marked edits) = false
is_full_update (Notice item) = false

-- whether it is edits that are marked as not all (RFC 8641 section 3.11.1)
abbrev pub is_incomplete_update : Body → Bool
is_incomplete_update (All rows) = false
is_incomplete_update (Edits edits) = false
is_incomplete_update (Marked edits) = true
is_incomplete_update (Notice item) = false

-- whether it is an update, and no change of the subscription's state
abbrev pub is_update : Body → Bool
is_update (All rows) = true
is_update (Edits edits) = true
is_update (Marked edits) = true
is_update (Notice item) = false

-- whether it is that the subscription goes on (RFC 8639 section 2.7.5)
abbrev pub is_resumption : Body → Bool
is_resumption (All rows) = false
is_resumption (Edits edits) = false
is_resumption (Marked edits) = false
is_resumption (Notice item) = is_resumed item

-- an update that was taken
pub record IsTakenUpdate (a : Attempt) : Type 0 where
  pub taken : is_taken a.answer ≡ true
  pub update : is_update a.made.body ≡ true
