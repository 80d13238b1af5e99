-- What follows of attempts, as one or more come after others.
use Rattle.std.proofs.Common.{◌≡◌, ℕ, refl, sym, ap, ◌∙◌, Bool, true, false, List, [], ◌∷◌, ◌++◌, append-nil, Option, Some, None}
use Rattle.std.specs.Prelude.{◌==◌, option_map}
use Rattle.std.proofs.lemmas.List.Elements.{filter-append}
use Rattle.std.proofs.lemmas.Option.{same_Some, none-some}
use Rattle.yp_attempt.specs.Content.{Content}
use Rattle.yp_attempt.specs.Attempts.{Notification, answers_in, if_taken, notification_of, of_receiver, taken_of}
use Rattle.yp_attempt.specs.ListLaws.{filter_fail, filter_pass}
use Rattle.yp_attempt.specs.Runs.{Found}
use Rattle.yp_attempt.specs.Tracks.{Answer, Attempt, Full, Took}
use Rattle.yp_attempt.specs.Workers.{found_rebased}

-- the attempts for a receiver after one more for it
pub own_more : (receiver : ℕ) (done : List Attempt) (a : Attempt) → (a.receiver == receiver) ≡ true → of_receiver receiver (done ++ a ∷ []) ≡ of_receiver receiver done ++ a ∷ []
own_more receiver done a e =
    let is_its : Attempt → Bool = (λ x. x.receiver == receiver) in
    filter-append is_its done (a ∷ []) ∙ ap (λ (xs : List Attempt). of_receiver receiver done ++ xs) (filter_pass is_its a [] e)

-- those after one more for another
pub other_more : (receiver : ℕ) (done : List Attempt) (a : Attempt) → (a.receiver == receiver) ≡ false → of_receiver receiver (done ++ a ∷ []) ≡ of_receiver receiver done
other_more receiver done a e =
    let is_its : Attempt → Bool = (λ x. x.receiver == receiver) in
    filter-append is_its done (a ∷ []) ∙ (ap (λ (xs : List Attempt). of_receiver receiver done ++ xs) (filter_fail is_its a [] e) ∙ append-nil (of_receiver receiver done))

-- their answers after one more
pub answers_one_more : (done : List Attempt) (a : Attempt) → answers_in (done ++ a ∷ []) ≡ answers_in done ++ a.answer ∷ []
answers_one_more [] a = refl
answers_one_more (x ∷ done) a = ap (λ (xs : List Answer). x.answer ∷ xs) (answers_one_more done a)

-- what was taken of them, and of more
pub taken_append : (xs ys : List Attempt) → taken_of (xs ++ ys) ≡ taken_of xs ++ taken_of ys
taken_append [] ys = refl
taken_append (x ∷ xs) ys = by x.answer (taken_append xs ys)
  where
    by : (answer : Answer) → taken_of (xs ++ ys) ≡ taken_of xs ++ taken_of ys → if_taken answer (notification_of x) (taken_of (xs ++ ys)) ≡ if_taken answer (notification_of x) (taken_of xs) ++ taken_of ys
    by Took later = ap (λ (ns : List Notification). notification_of x ∷ ns) later
    by Full later = later

-- where nothing is found with its base moved, nothing was found; and what is found so was found
pub none_found : (c : Content) (n stamp : ℕ) (o : Option Found) → option_map (found_rebased c n stamp) o ≡ None → o ≡ None
none_found c n stamp None e = refl
none_found c n stamp (Some found) e = absurd (none-some (found_rebased c n stamp found) (sym e))

pub some_found : (c : Content) (n stamp : ℕ) (o : Option Found) (found : Found) → option_map (found_rebased c n stamp) o ≡ Some found → (other : Found) × (o ≡ Some other) × (found_rebased c n stamp other ≡ found)
some_found c n stamp None found e = absurd (none-some found e)
some_found c n stamp (Some other) found e = (other, refl, same_Some (found_rebased c n stamp other) found e)
