-- What follows of runs: each track is for one of the run's receivers, and the position is the number of entries.
use Rattle.std.proofs.Common.{◌≡◌, ℕ, zero, suc, ◌+◌, ◌<◌, refl, sym, ap, subst, ◌∙◌, Bool, true, false, not, List, [], ◌∷◌, ◌++◌, map, length, Some, arith, length-append}
use Rattle.std.specs.Prelude.{if◌then◌else◌, ◌==◌, ◌%◌, nat_lt}
use Rattle.std.specs.List.{AllByRecursion, filter}
use Rattle.std.proofs.lemmas.Bool.{eqb-true}
use Rattle.yp_attempt.specs.Content.{Content}
use Rattle.yp_attempt.specs.ListLaws.{all_append, all_before, all_rest, all_map, all_filter}
use Rattle.yp_attempt.specs.Moments.{Moment, Act, Quiet, Starts, Controls, Drops, after_moment, is_kept_by, new_track}
use Rattle.yp_attempt.specs.Runs.{Found, IsFirst, Run, Reaches, opened, advances, settles, first_offer, waits, with_started}
use Rattle.yp_attempt.specs.TrackLaws.{moment_same, answer_same}
use Rattle.yp_attempt.specs.Tracks.{Track, Answer, rebased, after_answer}
use Rattle.yp_attempt.specs.Workers.{numbers_of}

-- what is found is the first offer
abbrev pub FindsFirst : Type 0
FindsFirst = (c : Content) (stamp : ℕ) (tracks : List Track) (found : Found) → first_offer c stamp tracks ≡ Some found → IsFirst c stamp tracks found

module _ (Is : ℕ → Type 0) (c : Content) (receivers : List ℕ) (each : AllByRecursion Is receivers) where
  abbrev Belongs : Track → Type 0
  Belongs track = Is track.feed.receiver

  started_belong : (m : Moment) (n : ℕ) (act : Act) (tracks : List Track) → AllByRecursion Belongs tracks → AllByRecursion Belongs (with_started m n act receivers tracks)
  started_belong m n Quiet tracks h = h
  started_belong m n (Starts sub trigger configured names) tracks h =
      let earlier : Track → Bool = (λ track. nat_lt track.feed.sub sub) in
      let later : Track → Bool = (λ track. not (nat_lt track.feed.sub sub)) in
      let new : List Track = map (new_track m n sub trigger configured) (filter names receivers) in
      all_append Belongs (filter earlier tracks) (new ++ filter later tracks) (all_filter Belongs earlier tracks h)
      (all_append Belongs new (filter later tracks) (all_map Is Belongs (new_track m n sub trigger configured) (filter names receivers) (λ receiver is. is) (all_filter Is names receivers each)) (all_filter Belongs later tracks h))
  started_belong m n (Controls sub control) tracks h = h
  started_belong m n (Drops sub) tracks h = h

  left_belong : (track : Track) (later : List Track) (gone : Bool) → Belongs track → AllByRecursion Belongs later → AllByRecursion Belongs ((if gone then [] else track ∷ []) ++ later)
  left_belong track later true h rest = rest
  left_belong track later false h rest = (h, rest)

  -- so does what is found among tracks that belong to them
  pub found_belongs : (stamp : ℕ) (tracks : List Track) (found : Found) → IsFirst c stamp tracks found → AllByRecursion Belongs tracks → Belongs found.track
  found_belongs stamp tracks found is all = (all_rest Belongs found.before (found.track ∷ found.after) (subst (λ (xs : List Track). AllByRecursion Belongs xs) is.parts all)).0

  pub run_belongs : FindsFirst → (past : List Moment) (answers : List Answer) (run : Run) → Reaches c receivers past answers run → AllByRecursion Belongs run.standing.tracks
  run_belongs finds _ _ _ opened = tt
  run_belongs finds _ _ _ (advances past answers run m r may idle) =
      let looked : Track → Track = rebased c run.standing.position run.standing.stamp in
      let met : Track → Track = after_moment c m (run.standing.position + 1) in
      let here : List Track = map looked run.standing.tracks in
      let kept : List Track = filter (is_kept_by m.act) here in
      started_belong m (run.standing.position + 1) m.act (map met kept)
      (all_map Belongs Belongs met kept (λ track is. subst Is (sym (moment_same c m (run.standing.position + 1) track).1) is)
      (all_filter Belongs (is_kept_by m.act) here (all_map Belongs Belongs looked run.standing.tracks (λ track is. is) (run_belongs finds past answers run r))))
  run_belongs finds _ _ _ (settles past answers run found answer r offers) =
      let new : Track = after_answer c run.standing.position run.standing.stamp found.track found.item answer in
      let all : AllByRecursion Belongs (found.before ++ found.track ∷ found.after) = subst (λ (xs : List Track). AllByRecursion Belongs xs) (finds c run.standing.stamp run.standing.tracks found offers).parts (run_belongs finds past answers run r) in
      let rest = all_rest Belongs found.before (found.track ∷ found.after) all in
      all_append Belongs found.before ((if new.feed.ended then [] else new ∷ []) ++ found.after) (all_before Belongs found.before (found.track ∷ found.after) all)
      (left_belong new found.after new.feed.ended (subst Is (sym (answer_same c run.standing.position run.standing.stamp found.track found.item answer).1) rest.0) rest.1)

-- and so does what a run offers
pub found_for : (Is : ℕ → Type 0) → FindsFirst → (c : Content) (receivers : List ℕ) → AllByRecursion Is receivers → (past : List Moment) (answers : List Answer) (run : Run) (found : Found) → Reaches c receivers past answers run → waits c run ≡ Some found → Is found.track.feed.receiver
found_for Is finds c receivers each past answers run found r offers =
    found_belongs Is c receivers each run.standing.stamp run.standing.tracks found (finds c run.standing.stamp run.standing.tracks found offers) (run_belongs Is c receivers each finds past answers run r)

-- ---- positions

pub position_is : (c : Content) (receivers : List ℕ) (past : List Moment) (answers : List Answer) (run : Run) → Reaches c receivers past answers run → run.standing.position ≡ length past
position_is c receivers _ _ _ opened = refl
position_is c receivers _ _ _ (advances past answers run m r may idle) = ap (λ (n : ℕ). n + 1) (position_is c receivers past answers run r) ∙ sym (length-append past (m ∷ []))
position_is c receivers _ _ _ (settles past answers run found answer r offers) = position_is c receivers past answers run r

-- ---- the receivers of a worker

one_is : (worker workers count : ℕ) (b : Bool) → (count % workers == worker) ≡ b → AllByRecursion (λ receiver. receiver % workers ≡ worker) (if b then count ∷ [] else [])
one_is worker workers count true e = (eqb-true (count % workers) worker e, tt)
one_is worker workers count false e = tt

-- have the worker's number as remainder
pub all_its : (worker workers count : ℕ) → AllByRecursion (λ receiver. receiver % workers ≡ worker) (numbers_of worker workers count)
all_its worker workers zero = tt
all_its worker workers (suc count) =
    all_append (λ receiver. receiver % workers ≡ worker) (numbers_of worker workers count) (if count % workers == worker then count ∷ [] else []) (all_its worker workers count) (one_is worker workers count (count % workers == worker) refl)

-- and are below their count
one_below : (most count : ℕ) (b : Bool) → count < most → AllByRecursion (λ n. n < most) (if b then count ∷ [] else [])
one_below most count true less = (less, tt)
one_below most count false less = tt

pub numbers_below : (worker workers most count : ℕ) → count < most + 1 → AllByRecursion (λ n. n < most) (numbers_of worker workers count)
numbers_below worker workers most zero few = tt
numbers_below worker workers most (suc count) few =
    all_append (λ n. n < most) (numbers_of worker workers count) (if count % workers == worker then count ∷ [] else []) (numbers_below worker workers most count (omega (arith, few)))
    (one_below most count (count % workers == worker) (omega (arith, few)))
