-- What follows of what was taken among attempts: where an attempt stands whose notification was taken, and which attempts are of one subscription.
use Rattle.std.proofs.Common.{◌≡◌, ℕ, refl, sym, ap, ◌∙◌, true, List, [], ◌∷◌, ◌++◌, arith, append_assoc}
use Rattle.std.specs.Prelude.{◌==◌}
use Rattle.std.specs.List.{AllByRecursion}
use Rattle.std.proofs.lemmas.List.Elements.{filter-append}
use Rattle.yp_attempt.specs.Attempts.{Notification, notification_of, if_taken, taken_of}
use Rattle.yp_attempt.specs.ListLaws.{filter_pass}
use Rattle.yp_attempt.specs.Tracks.{Answer, Took, Full, Attempt, is_taken}
use Rattle.yp_mirror.specs.Heard.{of_sub}

-- ---- lists

-- what holds of each element, wherever it stands, holds of all
pub all_there : {X : Type 0} (P : X → Type 0) (whole done xs : List X) → whole ≡ done ++ xs → ((before : List X) (x : X) (after : List X) → whole ≡ before ++ x ∷ after → P x) → AllByRecursion P xs
all_there P whole done [] is f = tt
all_there P whole done (x ∷ xs) is f = (f done x xs is, all_there P whole (done ++ x ∷ []) xs (is ∙ sym (append_assoc done (x ∷ []) xs)) f)

-- what holds of all holds of the one that stands here
pub one_there : {X : Type 0} (P : X → Type 0) (before : List X) (x : X) (after : List X) → AllByRecursion P (before ++ x ∷ after) → P x
one_there P [] x after all = all.0
one_there P (y ∷ before) x after all = one_there P before x after all.1

-- ---- what was taken

-- a notification that was taken is that of an attempt, with those taken before and after it
pub record IsTakenAt (attempts : List Attempt) (before : List Notification) (n : Notification) (after : List Notification) : Type 0 where
  pub front : List Attempt
  pub a : Attempt
  pub back : List Attempt
  pub parts : attempts ≡ front ++ a ∷ back
  pub first : taken_of front ≡ before
  pub here : notification_of a ≡ n
  pub taken : is_taken a.answer ≡ true
  pub rest : taken_of back ≡ after

-- an attempt more before it, which was full
not_here : (x : Attempt) (attempts : List Attempt) (before : List Notification) (n : Notification) (after : List Notification) → x.answer ≡ Full → IsTakenAt attempts before n after → IsTakenAt (x ∷ attempts) before n after
not_here x attempts before n after is at = record {
  front = x ∷ at.front;
  a = at.a;
  back = at.back;
  parts = ap (λ (xs : List Attempt). x ∷ xs) at.parts;
  first = ap (λ (answer : Answer). if_taken answer (notification_of x) (taken_of at.front)) is ∙ at.first;
  here = at.here;
  taken = at.taken;
  rest = at.rest;
}

-- or which was taken
earlier_here : (x : Attempt) (attempts : List Attempt) (before : List Notification) (m n : Notification) (after : List Notification) → x.answer ≡ Took → notification_of x ≡ m → IsTakenAt attempts before n after → IsTakenAt (x ∷ attempts) (m ∷ before) n after
earlier_here x attempts before m n after is same at = record {
  front = x ∷ at.front;
  a = at.a;
  back = at.back;
  parts = ap (λ (xs : List Attempt). x ∷ xs) at.parts;
  first = ap (λ (answer : Answer). if_taken answer (notification_of x) (taken_of at.front)) is ∙ (λ i. same i ∷ at.first i);
  here = at.here;
  taken = at.taken;
  rest = at.rest;
}

taken_here : (x : Attempt) (attempts : List Attempt) (answer : Answer) → x.answer ≡ answer → (before : List Notification) (n : Notification) (after : List Notification) → if_taken answer (notification_of x) (taken_of attempts) ≡ before ++ n ∷ after
    → ((earlier : List Notification) → taken_of attempts ≡ earlier ++ n ∷ after → IsTakenAt attempts earlier n after) → IsTakenAt (x ∷ attempts) before n after
taken_here x attempts Took is [] n after e later =
    let same : notification_of x ≡ n = cc in
    let rest : taken_of attempts ≡ after = cc in
    record { front = []; a = x; back = attempts; parts = refl; first = refl; here = same; taken = ap is_taken is; rest = rest }
taken_here x attempts Took is (m ∷ before) n after e later =
    let same : notification_of x ≡ m = cc in
    let rest : taken_of attempts ≡ before ++ n ∷ after = cc in
    earlier_here x attempts before m n after is same (later before rest)
taken_here x attempts Full is before n after e later = not_here x attempts before n after is (later before e)

pub taken_at : (attempts : List Attempt) (before : List Notification) (n : Notification) (after : List Notification) → taken_of attempts ≡ before ++ n ∷ after → IsTakenAt attempts before n after
taken_at [] [] n after e = absurd cc
taken_at [] (m ∷ before) n after e = absurd cc
taken_at (x ∷ attempts) before n after e = taken_here x attempts x.answer refl before n after e (λ earlier f. taken_at attempts earlier n after f)

taken_by_answer : (P : Notification → Type 0) (a : Attempt) (attempts : List Attempt) (answer : Answer) → P (notification_of a) → AllByRecursion P (taken_of attempts) → AllByRecursion P (if_taken answer (notification_of a) (taken_of attempts))
taken_by_answer P a attempts Took one all = (one, all)
taken_by_answer P a attempts Full one all = all

-- what holds of each attempt's notification holds of all that were taken
pub all_taken : (P : Notification → Type 0) (attempts : List Attempt) → AllByRecursion (λ a. P (notification_of a)) attempts → AllByRecursion P (taken_of attempts)
all_taken P [] all = tt
all_taken P (a ∷ attempts) all = taken_by_answer P a attempts a.answer all.0 (all_taken P attempts all.1)

-- ---- one subscription

pub sub_parts : (id : ℕ) (front : List Attempt) (a : Attempt) (back : List Attempt) → (a.sub == id) ≡ true → of_sub id (front ++ a ∷ back) ≡ of_sub id front ++ a ∷ of_sub id back
sub_parts id front a back mine =
    filter-append (λ (x : Attempt). x.sub == id) front (a ∷ back) ∙ ap (λ (xs : List Attempt). of_sub id front ++ xs) (filter_pass (λ (x : Attempt). x.sub == id) a back mine)

pub number_is : (a : ℕ) → (a == a) ≡ true
number_is a = grind arith
