-- A worker offers, and the queue gives the answer of the run: before a notification that it accepts, the receiver takes the first of a full queue.
use Rattle.std.proofs.Common.{◌≡◌, ℕ, ◌<◌, ◌≤◌, refl, sym, ap, subst, ◌∙◌, Bool, true, false, List, [], ◌∷◌, ◌++◌, length, Some, arith}
use Rattle.std.specs.Prelude.{◌==◌, nat_le, slice_set}
use Rattle.std.specs.List.{slice_get}
use Rattle.std.proofs.lemmas.Bool.{leb-true, true≢false}
use Rattle.yp_attempt.specs.Attempts.{Notification, notification_of, of_receiver, taken_of}
use Rattle.yp_attempt.specs.AttemptLaws.{other_more, own_more}
use Rattle.yp_attempt.specs.Moments.{Moment}
use Rattle.yp_attempt.specs.Runs.{Found, Run, run_settled, waits}
use Rattle.yp_attempt.specs.Tracks.{Answer, Attempt, Full, Took}
use Rattle.yp_attempt.specs.Attempts.{FillsFirst}
use Rattle.yp_world.specs.TakenLaws.{number_is}
use Rattle.yp_world.specs.World.{Delivery, Offer, Setup, Take, World, delivery_after, step, worker_of}
use Rattle.yp_attempt.specs.ElementLaws.{get_set_same}
use Rattle.yp_traces.proofs.Filling.{HasRoom, IsAnswered, IsFilled, after_first, full_answered, has_room, not_empty, room_made, took_answered}
use Rattle.yp_traces.proofs.Following.{ComesTo, IsAt, attempt_by, delivery_set, offer_step, standing_set, take_step, weaker, worker_there}
use Rattle.yp_traces.proofs.Runs.{Fills, OthersFill, offered_to, other_standing, own_run, own_standing, same_offered, standing_in, with_run}

module _ (setup : Setup) (journal : List Moment) (worker : ℕ) (small : worker < setup.workers) (runs : ℕ → Run) where
  -- all workers' runs, where this one has this run
  abbrev With : Run → ℕ → Run
  With run = with_run worker run runs

  -- a world in which they have them
  abbrev pub IsWith : Run → World → Type 0
  IsWith run world = IsAt setup journal (standing_in (With run)) (Fills setup (With run)) world

  abbrev pub ComesWith : Run → World → Type 0
  ComesWith run world = ComesTo setup journal (standing_in (With run)) (Fills setup (With run)) world

  pub stands_there : (run : Run) (Has : ℕ → Delivery → Type 0) (world : World) → IsAt setup journal (standing_in (With run)) Has world → slice_get world.standings worker ≡ Some run.standing
  stands_there run Has world h = worker_there h worker small ∙ ap (λ (x : Run). Some x.standing) (own_run worker worker run runs refl)

  module _ (run : Run) (found : Found) (offers : waits setup.content run ≡ Some found) where
    -- its receiver, and what this was offered
    abbrev its : ℕ
    its = found.track.feed.receiver

    abbrev earlier : List Attempt
    earlier = of_receiver its run.done

    -- the attempt with an answer, and the run after it
    abbrev tried : Answer → Attempt
    tried answer = attempt_by setup run.standing found answer

    abbrev after : Answer → Run
    after answer = run_settled setup.content run found answer

    -- a world in which the other receivers have what they were offered
    abbrev IsBeside : World → Type 0
    IsBeside world = IsAt setup journal (standing_in (With run)) (OthersFill setup (With run) its) world

    module _ (mine : worker_of setup its ≡ worker) where
      own_offered : (any : Run) → offered_to setup (With any) its ≡ of_receiver its any.done
      own_offered any = ap (λ (x : Run). of_receiver its x.done) (own_run worker (worker_of setup its) any runs mine)

      -- the event of the offer
      offered : (answer : Answer) (world : World) → IsBeside world → (delivery : Delivery) → slice_get world.deliveries its ≡ Some delivery → IsAnswered earlier (tried answer) answer delivery
          → IsWith (after answer) (step setup world (Offer worker)).0
      offered answer world h delivery there is =
          let next : Run = after answer in
          let new : Delivery = delivery_after answer (notification_of (tried answer)) delivery in
          let at : slice_get world.standings worker ≡ Some run.standing = stands_there run (OthersFill setup (With run) its) world h in
          let moved = standing_set h (standing_in (With next)) worker run.standing next.standing at (own_standing worker next runs) (λ x other. other_standing worker x run next runs other) in
          let whole : offered_to setup (With next) its ≡ earlier ++ tried answer ∷ [] = own_offered next ∙ own_more its run.done (tried answer) (number_is its) in
          let filled : Fills setup (With next) its new = subst (λ (xs : List Attempt). IsFilled xs new) (sym whole) is.filled in
          let others : (x : ℕ) (old : Delivery) → (its == x) ≡ false → OthersFill setup (With run) its x old → Fills setup (With next) x old =
          (λ x old other was. subst (λ (xs : List Attempt). IsFilled xs old) (same_offered setup worker x run next runs (sym (other_more x run.done (tried answer) other))) (was other)) in
          subst (λ (w : World). IsWith next w) (sym (offer_step setup world worker run.standing found delivery answer at offers there is.answer_is)) (delivery_set moved (Fills setup (With next)) its delivery new there is.places filled others)

      module _ (world : World) (h : IsWith run world) (delivery : Delivery) (there : slice_get world.deliveries its ≡ Some delivery) where
        beside : IsBeside world
        beside = weaker h (OthersFill setup (With run) its) (λ x old is other. is)

        filled_there : IsFilled earlier delivery
        filled_there = subst (λ (xs : List Attempt). IsFilled xs delivery) (own_offered run) (h.delivers its delivery there)

        -- it meets a full queue
        meets_full : delivery.places ≤ length (taken_of earlier) → ComesWith (after Full) world
        meets_full most = record { events = Offer worker ∷ []; comes = offered Full world beside delivery there (full_answered (tried Full) refl filled_there most) }

        -- it is accepted where there is room
        accepted : length (taken_of earlier) < delivery.places → ComesWith (after Took) world
        accepted less = record { events = Offer worker ∷ []; comes = offered Took world beside delivery there (took_answered (tried Took) refl (has_room filled_there less)) }

        -- and else once the receiver took the first
        accepted_after : delivery.places ≤ length (taken_of earlier) → (n : Notification) (queue : List Notification) → delivery.queue ≡ n ∷ queue → ComesWith (after Took) world
        accepted_after most n queue is =
            let new : Delivery = after_first delivery n queue in
            let next : World = record world { deliveries = slice_set world.deliveries its new } in
            let room : HasRoom earlier new = room_made n queue is filled_there most in
            let itself : OthersFill setup (With run) its its new = (λ other. absurd (true≢false (sym (number_is its) ∙ other))) in
            let made : IsBeside next = delivery_set beside (OthersFill setup (With run) its) its delivery new there refl itself (λ x old other was. was) in
            record {
              events = Take its ∷ Offer worker ∷ [];
              comes = subst (λ (w : World). IsWith (after Took) (step setup w (Offer worker)).0) (sym (take_step setup world its delivery n queue there is))
                  (offered Took next made new (get_set_same world.deliveries its delivery new there) (took_answered (tried Took) refl room));
            }

        accepted_from : delivery.places ≤ length (taken_of earlier) → 1 ≤ delivery.places → (queue : List Notification) → delivery.queue ≡ queue → ComesWith (after Took) world
        accepted_from most some [] is = absurd (not_empty filled_there most some is)
        accepted_from most some (n ∷ queue) is = accepted_after most n queue is

        at_least : (a b : ℕ) → nat_le a b ≡ false → b < a
        at_least a b e = grind (arith, e)

        accepted_by : 1 ≤ delivery.places → (b : Bool) → nat_le delivery.places (length (taken_of earlier)) ≡ b → ComesWith (after Took) world
        accepted_by some true e = accepted_from (leb-true delivery.places (length (taken_of earlier)) e) some delivery.queue refl
        accepted_by some false e = accepted (at_least delivery.places (length (taken_of earlier)) e)

        -- it gets either answer
        pub gets_answer : 1 ≤ delivery.places → (answer : Answer) → FillsFirst delivery.places (of_receiver its (after answer).done) → ComesWith (after answer) world
        gets_answer some Took fulls = accepted_by some (nat_le delivery.places (length (taken_of earlier))) refl
        gets_answer some Full fulls = meets_full (fulls earlier (tried Full) [] (own_more its run.done (tried Full) (number_is its)) refl)
