-- What is told tells of the attempts themselves: full answers among them, and what is still to come after them.
use Rattle.std.proofs.Common.{◌≡◌, ℕ, ◌+◌, ◌≤◌, refl, sym, ap, subst, ◌∙◌, true, false, not, ◌&&◌, List, [], ◌∷◌, ◌++◌, length, arith, append-nil, append_assoc, length-append}
use Rattle.std.specs.Prelude.{nat_le}
use Rattle.std.specs.List.{AllByRecursion}
use Rattle.std.proofs.lemmas.Bool.{true≢false, or_left, or_right, and_left, and_right, and_parts, not-true}
use Rattle.yp_feed.specs.Machine.{is_resumed}
use Rattle.yp_attempt.specs.Content.{Content}
use Rattle.yp_attempt.specs.ListLaws.{all_append}
use Rattle.yp_attempt.specs.Tracks.{Body, All, Edits, Marked, Notice, Answer, Took, Full, Attempt, is_taken}
use Rattle.yp_mirror.specs.Heard.{Told, told_nothing, after_full, after_attempt, heard, heard_all, told_by, is_update, is_resumption, is_full_update, is_incomplete_update}
use Rattle.yp_mirror.specs.FullQueues.{HasFull, HasEightFull}
use Rattle.yp_mirror.proofs.Facts.{by_either}

-- attempts that met a full queue
abbrev AreFull : List Attempt → Type 0
AreFull attempts = AllByRecursion (λ a. is_taken a.answer ≡ false) attempts

-- ---- full answers

-- these attempts end in so many full answers
record EndInFulls (attempts : List Attempt) (n : ℕ) : Type 0 where
  pub before : List Attempt
  pub fulls : List Attempt
  pub parts : attempts ≡ before ++ fulls
  pub count : length fulls ≡ n
  pub answers : AreFull fulls

-- what is told of full answers is so of these attempts
record IsToldOf (attempts : List Attempt) (t : Told) : Type 0 where
  pub row : EndInFulls attempts t.fulls
  pub full : t.met_full ≡ true → HasFull attempts
  pub eight : t.met_eight ≡ true → HasEightFull attempts

full_more : (attempts : List Attempt) (a : Attempt) → (is_taken a.answer && is_update a.made.body) ≡ false → HasFull attempts → HasFull (attempts ++ a ∷ [])
full_more attempts a e h = record {
  before = h.before;
  full = h.full;
  after = h.after ++ a ∷ [];
  parts = ap (λ (xs : List Attempt). xs ++ a ∷ []) h.parts ∙ append_assoc h.before (h.full ∷ h.after) (a ∷ []);
  answer = h.answer;
  since = all_append (λ (x : Attempt). (is_taken x.answer && is_update x.made.body) ≡ false) h.after (a ∷ []) h.since (e, tt);
}

eight_more : (attempts : List Attempt) (a : Attempt) → (is_taken a.answer && is_resumption a.made.body) ≡ false → HasEightFull attempts → HasEightFull (attempts ++ a ∷ [])
eight_more attempts a e h = record {
  before = h.before;
  fulls = h.fulls;
  after = h.after ++ a ∷ [];
  parts = ap (λ (xs : List Attempt). xs ++ a ∷ []) h.parts ∙ (append_assoc h.before (h.fulls ++ h.after) (a ∷ []) ∙ ap (λ (xs : List Attempt). h.before ++ xs) (append_assoc h.fulls h.after (a ∷ [])));
  eight = h.eight;
  answers = h.answers;
  since = all_append (λ (x : Attempt). (is_taken x.answer && is_resumption x.made.body) ≡ false) h.after (a ∷ []) h.since (e, tt);
}

row_more : (attempts : List Attempt) (a : Attempt) (n : ℕ) → is_taken a.answer ≡ false → EndInFulls attempts n → EndInFulls (attempts ++ a ∷ []) (n + 1)
row_more attempts a n e h = record {
  before = h.before;
  fulls = h.fulls ++ a ∷ [];
  parts = ap (λ (xs : List Attempt). xs ++ a ∷ []) h.parts ∙ append_assoc h.before h.fulls (a ∷ []);
  count = length-append h.fulls (a ∷ []) ∙ ap (λ (x : ℕ). x + 1) h.count;
  answers = all_append (λ (x : Attempt). is_taken x.answer ≡ false) h.fulls (a ∷ []) h.answers (e, tt);
}

at_least_eight : (n length : ℕ) → nat_le 8 n ≡ true → length ≡ n → 8 ≤ length
at_least_eight n length e same = grind (arith, e, same)

row_of_eight : (attempts : List Attempt) (n : ℕ) → EndInFulls attempts n → nat_le 8 n ≡ true → HasEightFull attempts
row_of_eight attempts n h e = record {
  before = h.before;
  fulls = h.fulls;
  after = [];
  parts = h.parts ∙ ap (λ (xs : List Attempt). h.before ++ xs) (sym (append-nil h.fulls));
  eight = at_least_eight n (length h.fulls) e h.count;
  answers = h.answers;
  since = tt;
}

-- what is taken ends the row
row_ends : (attempts : List Attempt) → EndInFulls attempts 0
row_ends attempts = record { before = attempts; fulls = []; parts = sym (append-nil attempts); count = refl; answers = tt }

-- an update that is taken leaves what was told of eight full answers
update_told : (attempts : List Attempt) (a : Attempt) (t : Told) (body : Body) → a.made.body ≡ body → is_resumption body ≡ false → IsToldOf attempts t → (new : Told) → new.fulls ≡ 0 → new.met_full ≡ false → new.met_eight ≡ t.met_eight → IsToldOf (attempts ++ a ∷ []) new
update_told attempts a t body same other h new none no_full same_eight = record {
  row = subst (EndInFulls (attempts ++ a ∷ [])) (sym none) (row_ends (attempts ++ a ∷ []));
  full = λ e. absurd (true≢false (sym e ∙ no_full));
  eight = λ e. eight_more attempts a (and_right (is_taken a.answer) (is_resumption a.made.body) (ap is_resumption same ∙ other)) (h.eight (sym same_eight ∙ e));
}

answer_told : (c : Content) (attempts : List Attempt) (a : Attempt) (t : Told) (position : ℕ) (body : Body) (stamp : ℕ) (answer : Answer) → a.made.body ≡ body → a.answer ≡ answer → IsToldOf attempts t → IsToldOf (attempts ++ a ∷ []) (after_attempt c t position body stamp answer)
answer_told c attempts a t position (All rows) stamp Took same e h = update_told attempts a t (All rows) same refl h (after_attempt c t position (All rows) stamp Took) refl refl refl
answer_told c attempts a t position (Edits edits) stamp Took same e h = update_told attempts a t (Edits edits) same refl h (after_attempt c t position (Edits edits) stamp Took) refl refl refl
answer_told c attempts a t position (Marked edits) stamp Took same e h = update_told attempts a t (Marked edits) same refl h (after_attempt c t position (Marked edits) stamp Took) refl refl refl
answer_told c attempts a t position (Notice item) stamp Took same e h = record {
  row = row_ends (attempts ++ a ∷ []);
  full = λ x. full_more attempts a (and_right (is_taken a.answer) (is_update a.made.body) (ap is_update same)) (h.full x);
  eight = λ x.
      let k = and_parts (not (is_resumed item)) t.met_eight x in
      eight_more attempts a (and_right (is_taken a.answer) (is_resumption a.made.body) (ap is_resumption same ∙ not-true (is_resumed item) k.0)) (h.eight k.1);
}
answer_told c attempts a t position body stamp Full same e h =
    let full : is_taken a.answer ≡ false = ap is_taken e in
    let row : EndInFulls (attempts ++ a ∷ []) (t.fulls + 1) = row_more attempts a t.fulls full h.row in
    record {
      row = row;
      full = λ x. record { before = attempts; full = a; after = []; parts = refl; answer = full; since = tt };
      eight = λ x. by_either t.met_eight (nat_le 8 (t.fulls + 1)) x
          (λ met. eight_more attempts a (and_left (is_taken a.answer) (is_resumption a.made.body) full) (h.eight met)) (row_of_eight (attempts ++ a ∷ []) (t.fulls + 1) row);
    }

all_told : (c : Content) (attempts : List Attempt) (t : Told) (more : List Attempt) → IsToldOf attempts t → IsToldOf (attempts ++ more) (heard_all c t more)
all_told c attempts t [] h = subst (λ (xs : List Attempt). IsToldOf xs t) (sym (append-nil attempts)) h
all_told c attempts t (a ∷ more) h =
    subst (λ (xs : List Attempt). IsToldOf xs (heard_all c (heard c t a) more)) (append_assoc attempts (a ∷ []) more)
    (all_told c (attempts ++ a ∷ []) (heard c t a) more (answer_told c attempts a t a.made.position a.made.body a.stamp a.answer refl refl h))

told_of : (c : Content) (attempts : List Attempt) → IsToldOf attempts (told_by c attempts)
told_of c attempts =
    all_told c [] told_nothing attempts (record {
      row = record { before = []; fulls = []; parts = refl; count = refl; answers = tt };
      full = λ e. absurd (true≢false (sym e));
      eight = λ e. absurd (true≢false (sym e));
    })

pub full_told : (c : Content) (attempts : List Attempt) → (told_by c attempts).met_full ≡ true → HasFull attempts
full_told c attempts e = (told_of c attempts).full e

pub eight_told : (c : Content) (attempts : List Attempt) → (told_by c attempts).met_eight ≡ true → HasEightFull attempts
eight_told c attempts e = (told_of c attempts).eight e

-- ---- what is still to come

pub incomplete_awaits : (c : Content) (t : Told) (position : ℕ) (body : Body) (stamp : ℕ) (answer : Answer) → is_taken answer ≡ true → is_incomplete_update body ≡ true → (after_attempt c t position body stamp answer).awaits ≡ true
incomplete_awaits c t position (All rows) stamp Took taken marked = absurd (true≢false (sym marked))
incomplete_awaits c t position (Edits edits) stamp Took taken marked = absurd (true≢false (sym marked))
incomplete_awaits c t position (Marked edits) stamp Took taken marked = refl
incomplete_awaits c t position (Notice item) stamp Took taken marked = absurd (true≢false (sym marked))
incomplete_awaits c t position body stamp Full taken marked = absurd (true≢false (sym taken))

pub awaits_until : (c : Content) (t : Told) (position : ℕ) (body : Body) (stamp : ℕ) (answer : Answer) → is_full_update body ≡ false → t.awaits ≡ true → (after_attempt c t position body stamp answer).awaits ≡ true
awaits_until c t position (All rows) stamp Took whole e = absurd (true≢false whole)
awaits_until c t position (Edits edits) stamp Took whole e = e
awaits_until c t position (Marked edits) stamp Took whole e = refl
awaits_until c t position (Notice item) stamp Took whole e = e
awaits_until c t position body stamp Full whole e = or_left t.awaits (nat_le 8 (t.fulls + 1)) e

full_heard : (c : Content) (t : Told) (a : Attempt) (answer : Answer) → a.answer ≡ answer → is_taken a.answer ≡ false → heard c t a ≡ after_full t a.stamp
full_heard c t a Took e full = absurd (true≢false (ap is_taken (sym e) ∙ full))
full_heard c t a Full e full = ap (after_attempt c t a.made.position a.made.body a.stamp) e

enough : (fulls : ℕ) → 8 ≤ fulls + 1 → nat_le 8 (fulls + 1) ≡ true
enough fulls le = grind (arith, le)

-- after eight full answers in a row
pub eight_await : (c : Content) (t : Told) (a : Attempt) (fulls : List Attempt) → AreFull (a ∷ fulls) → 8 ≤ t.fulls + length (a ∷ fulls) → (heard_all c t (a ∷ fulls)).awaits ≡ true
eight_await c t a [] full le =
    ap (λ (x : Told). x.awaits) (full_heard c t a a.answer refl full.0) ∙ or_right t.awaits (nat_le 8 (t.fulls + 1)) (enough t.fulls le)
eight_await c t a (b ∷ fulls) full le =
    let same : (heard c t a).fulls ≡ t.fulls + 1 = ap (λ (x : Told). x.fulls) (full_heard c t a a.answer refl full.0) in
    eight_await c (heard c t a) b fulls full.1 (omega (arith, le, same))
