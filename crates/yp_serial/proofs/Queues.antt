-- What holds of queues throughout a serial run: kept by each entry and by each offer.
use Rattle.std.proofs.Common.{◌≡◌, ℕ, zero, suc, ◌+◌, ◌<◌, ◌≤◌, refl, sym, ap, subst, ◌∙◌, Bool, true, false, List, [], ◌∷◌, ◌++◌, length, Option, Some, None, arith, length-append}
use Rattle.std.specs.Prelude.{if◌then◌else◌, nat_lt, ◌==◌}
use Rattle.std.specs.List.{AllByRecursion, filter}
use Rattle.std.proofs.lemmas.Bool.{ltb-true, lt-ltb, eqb-true}
use Rattle.std.proofs.lemmas.List.Elements.{filter-append}
use Rattle.yp_attempt.specs.Content.{Content}
use Rattle.yp_attempt.specs.Tracks.{Answer, Took, Full, Attempt, attempt, is_taken}
use Rattle.yp_attempt.specs.Moments.{Moment}
use Rattle.yp_attempt.specs.Runs.{Found, waits}
use Rattle.yp_attempt.specs.Attempts.{of_receiver}
use Rattle.yp_attempt.specs.ListLaws.{all_append}
use Rattle.yp_serial.specs.Posts.{Post, Queueing, answer_by, after_offer, after_take}
use Rattle.yp_serial.specs.Serial.{Served, Taking, first_served, served_advanced, found_answer, served_settled, while_offered, offers_on, all_offered, serial, serial_run}
use Rattle.yp_serial.specs.Weights.{weights}

-- ---- what each step keeps

record IsKept (c : Content) (receivers : List ℕ) (q : Queueing) (takes : Taking) (P : Served → Type 0) : Type 0 where
  pub entry : (m : Moment) (served : Served) → P served → P (served_advanced c receivers takes m served)
  pub offer : (found : Found) (served : Served) → P served → P (served_settled c q found served)

kept_by : (c : Content) (receivers : List ℕ) (q : Queueing) (takes : Taking) (P : Served → Type 0) → IsKept c receivers q takes P → (k : ℕ) (served : Served) → P served → (o : Option Found)
    → ((next : Served) → P next → P (offers_on c q k next)) → P (while_offered o served (λ found. offers_on c q k (served_settled c q found served)))
kept_by c receivers q takes P kept k served h None f = h
kept_by c receivers q takes P kept k served h (Some found) f = f (served_settled c q found served) (kept.offer found served h)

kept_on : (c : Content) (receivers : List ℕ) (q : Queueing) (takes : Taking) (P : Served → Type 0) → IsKept c receivers q takes P → (k : ℕ) (served : Served) → P served → P (offers_on c q k served)
kept_on c receivers q takes P kept zero served h = h
kept_on c receivers q takes P kept (suc k) served h = kept_by c receivers q takes P kept k served h (waits c served.run) (λ next p. kept_on c receivers q takes P kept k next p)

kept_serial : (c : Content) (receivers : List ℕ) (q : Queueing) (takes : Taking) (P : Served → Type 0) → IsKept c receivers q takes P → (moments : List Moment) (served : Served) → P served → P (serial c receivers q takes served moments)
kept_serial c receivers q takes P kept [] served h = h
kept_serial c receivers q takes P kept (m ∷ moments) served h =
    let next : Served = served_advanced c receivers takes m served in
    kept_serial c receivers q takes P kept moments (all_offered c q next) (kept_on c receivers q takes P kept (weights c next.run.standing.stamp next.run.standing.tracks) next (kept.entry m served h))

-- ---- one receiver's part of one attempt more

-- the attempt that is made of what is found
abbrev made : Content → Queueing → Found → Served → Attempt
made c q found served = attempt c served.run.standing.position served.run.standing.stamp found.track found.item (found_answer q found served)

one_more : (receiver : ℕ) (done : List Attempt) (a : Attempt) → of_receiver receiver (done ++ a ∷ []) ≡ of_receiver receiver done ++ (if a.receiver == receiver then a ∷ [] else [])
one_more receiver done a = filter-append (λ (a : Attempt). a.receiver == receiver) done (a ∷ [])

-- ---- what was accepted

abbrev accepted : List Attempt → ℕ
accepted attempts = length (filter (λ a. is_taken a.answer) attempts)

abbrev HasParts : ℕ → Served → Type 0
HasParts receiver served = accepted (of_receiver receiver served.run.done) ≡ (served.posts receiver).taken + (served.posts receiver).held

accepted_append : (xs ys : List Attempt) → accepted (xs ++ ys) ≡ accepted xs + accepted ys
accepted_append xs ys =
    let test : Attempt → Bool = (λ a. is_taken a.answer) in
    ap (λ (zs : List Attempt). length zs) (filter-append test xs ys) ∙ length-append (filter test xs) (filter test ys)

took_parts : (automatic : Bool) (post : Post) → (post.taken + post.held) + 1 ≡ (after_offer automatic Took post).taken + (after_offer automatic Took post).held
took_parts true post = omega arith
took_parts false post = omega arith

-- an offer to the receiver, or to another one
offer_parts : (a : Attempt) (automatic b : Bool) (answer : Answer) (post : Post) → a.answer ≡ answer
    → (post.taken + post.held) + accepted (if b then a ∷ [] else []) ≡ (if b then after_offer automatic answer post else post).taken + (if b then after_offer automatic answer post else post).held
offer_parts a automatic true Took post e = ap (λ (x : Answer). (post.taken + post.held) + length (if is_taken x then a ∷ [] else [])) e ∙ took_parts automatic post
offer_parts a automatic true Full post e = ap (λ (x : Answer). (post.taken + post.held) + length (if is_taken x then a ∷ [] else [])) e ∙ omega arith
offer_parts a automatic false answer post e = omega arith

take_parts : (count : ℕ) (post : Post) → post.taken + post.held ≡ (after_take count post).taken + (after_take count post).held
take_parts count post = omega arith

parts_kept : (c : Content) (receivers : List ℕ) (q : Queueing) (takes : Taking) (receiver : ℕ) → IsKept c receivers q takes (HasParts receiver)
parts_kept c receivers q takes receiver = record {
  entry = λ m served h. h ∙ take_parts (takes (served.run.standing.position + 1) receiver) (served.posts receiver);
  offer = λ found served h.
      ap accepted (one_more receiver served.run.done (made c q found served))
      ∙ (accepted_append (of_receiver receiver served.run.done) (if found.track.feed.receiver == receiver then made c q found served ∷ [] else [])
      ∙ (ap (λ (n : ℕ). n + accepted (if found.track.feed.receiver == receiver then made c q found served ∷ [] else [])) h
      ∙ offer_parts (made c q found served) (q.automatic receiver) (found.track.feed.receiver == receiver) (found_answer q found served) (served.posts receiver) refl));
}

pub run_parts : (c : Content) (receivers : List ℕ) (q : Queueing) (takes : Taking) (journal : List Moment) (receiver : ℕ)
    → length (filter (λ a. is_taken a.answer) (of_receiver receiver (serial_run c receivers q takes journal).run.done))
    ≡ ((serial_run c receivers q takes journal).posts receiver).taken + ((serial_run c receivers q takes journal).posts receiver).held
run_parts c receivers q takes journal receiver = kept_serial c receivers q takes (HasParts receiver) (parts_kept c receivers q takes receiver) journal first_served refl

-- ---- places

-- what is found for a receiver is answered by this receiver's queue
own_answer : (q : Queueing) (served : Served) (found : Found) (receiver : ℕ) → (found.track.feed.receiver == receiver) ≡ true → found_answer q found served ≡ answer_by (q.places receiver) (served.posts receiver)
own_answer q served found receiver e = ap (λ (r : ℕ). answer_by (q.places r) (served.posts r)) (eqb-true found.track.feed.receiver receiver e)

room_fits : (automatic : Bool) (places : ℕ) (post : Post) → post.held < places → (after_offer automatic Took post).held ≤ places
room_fits true places post room = omega (arith, room)
room_fits false places post room = omega (arith, room)

offer_fits : (automatic : Bool) (places : ℕ) (post : Post) → post.held ≤ places → (after_offer automatic (answer_by places post) post).held ≤ places
offer_fits automatic places post h = by (nat_lt post.held places) refl
  where
    by : (b : Bool) → nat_lt post.held places ≡ b → (after_offer automatic (if b then Took else Full) post).held ≤ places
    by true e = room_fits automatic places post (ltb-true post.held places e)
    by false e = h

abbrev Fits : Queueing → ℕ → Served → Type 0
Fits q receiver served = (served.posts receiver).held ≤ q.places receiver

-- a post after an offer, where it is its receiver's
settled_by : (q : Queueing) (served : Served) (found : Found) (receiver : ℕ) (P : Post → Type 0) → P (served.posts receiver)
    → ((found.track.feed.receiver == receiver) ≡ true → P (after_offer (q.automatic receiver) (answer_by (q.places receiver) (served.posts receiver)) (served.posts receiver)))
    → (b : Bool) → (found.track.feed.receiver == receiver) ≡ b → P (if b then after_offer (q.automatic receiver) (found_answer q found served) (served.posts receiver) else served.posts receiver)
settled_by q served found receiver P h f true e = subst (λ (x : Answer). P (after_offer (q.automatic receiver) x (served.posts receiver))) (sym (own_answer q served found receiver e)) (f e)
settled_by q served found receiver P h f false e = h

take_no_more : (count : ℕ) (post : Post) → (after_take count post).held ≤ post.held
take_no_more count post = omega arith

fits_kept : (c : Content) (receivers : List ℕ) (q : Queueing) (takes : Taking) (receiver : ℕ) → IsKept c receivers q takes (Fits q receiver)
fits_kept c receivers q takes receiver = record {
  entry = λ m served h. let less : (after_take (takes (served.run.standing.position + 1) receiver) (served.posts receiver)).held ≤ (served.posts receiver).held = take_no_more (takes (served.run.standing.position + 1) receiver) (served.posts receiver) in omega (arith, less, h);
  offer = λ found served h. settled_by q served found receiver (λ post. post.held ≤ q.places receiver) h (λ e. offer_fits (q.automatic receiver) (q.places receiver) (served.posts receiver) h) (found.track.feed.receiver == receiver) refl;
}

pub run_fits : (c : Content) (receivers : List ℕ) (q : Queueing) (takes : Taking) (journal : List Moment) (receiver : ℕ) → ((serial_run c receivers q takes journal).posts receiver).held ≤ q.places receiver
run_fits c receivers q takes journal receiver = kept_serial c receivers q takes (Fits q receiver) (fits_kept c receivers q takes receiver) journal first_served (omega arith)

-- ---- an automatic receiver

record IsNeverFull (receiver : ℕ) (served : Served) : Type 0 where
  pub empty : (served.posts receiver).held ≡ 0
  pub accepted : AllByRecursion (λ a. a.answer ≡ Took) (of_receiver receiver served.run.done)

empty_takes : (places : ℕ) (post : Post) → post.held ≡ 0 → 0 < places → answer_by places post ≡ Took
empty_takes places post e some = ap (λ (b : Bool). if b then Took else Full) (lt-ltb post.held places (omega (arith, e, some)))

-- what is offered to it is accepted
accepted_one : (a : Attempt) (b : Bool) → (b ≡ true → a.answer ≡ Took) → AllByRecursion (λ a. a.answer ≡ Took) (if b then a ∷ [] else [])
accepted_one a true h = (h refl, tt)
accepted_one a false h = tt

never_full_kept : (c : Content) (receivers : List ℕ) (q : Queueing) (takes : Taking) (receiver : ℕ) → q.automatic receiver ≡ true → 0 < q.places receiver → IsKept c receivers q takes (IsNeverFull receiver)
never_full_kept c receivers q takes receiver auto some = record {
  entry = λ m served h. record {
    empty = let less : (after_take (takes (served.run.standing.position + 1) receiver) (served.posts receiver)).held ≤ (served.posts receiver).held = take_no_more (takes (served.run.standing.position + 1) receiver) (served.posts receiver) in let none : (served.posts receiver).held ≡ 0 = h.empty in omega (arith, less, none);
    accepted = h.accepted;
  };
  offer = λ found served h.
      let took : answer_by (q.places receiver) (served.posts receiver) ≡ Took = empty_takes (q.places receiver) (served.posts receiver) h.empty some in
      record {
        empty = settled_by q served found receiver (λ post. post.held ≡ 0) h.empty (λ e. ap (λ (x : Bool × Answer). (after_offer x.0 x.1 (served.posts receiver)).held) (λ i. (auto i, took i)) ∙ h.empty) (found.track.feed.receiver == receiver) refl;
        accepted = subst (AllByRecursion (λ a. a.answer ≡ Took)) (sym (one_more receiver served.run.done (made c q found served)))
            (all_append (λ a. a.answer ≡ Took) (of_receiver receiver served.run.done) (if found.track.feed.receiver == receiver then made c q found served ∷ [] else []) h.accepted
            (accepted_one (made c q found served) (found.track.feed.receiver == receiver) (λ e. own_answer q served found receiver e ∙ took)));
      };
}

pub run_never_full : (c : Content) (receivers : List ℕ) (q : Queueing) (takes : Taking) (journal : List Moment) (receiver : ℕ) → q.automatic receiver ≡ true → 0 < q.places receiver
    → AllByRecursion (λ a. a.answer ≡ Took) (of_receiver receiver (serial_run c receivers q takes journal).run.done)
run_never_full c receivers q takes journal receiver auto some =
    (kept_serial c receivers q takes (IsNeverFull receiver) (never_full_kept c receivers q takes receiver auto some) journal first_served (record { empty = refl; accepted = tt })).accepted
