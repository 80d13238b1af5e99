-- A receiver's part of what its worker did is its own run, whatever other receivers the worker serves.
use Rattle.std.proofs.Common.{◌≡◌, ℕ, ◌<◌, refl, sym, ap, subst, ◌∙◌, List, [], ◌∷◌, ◌++◌, length}
use Rattle.yp_attempt.specs.Attempts.{IsOneOf, Replayed, answers_in, of_receiver, own_run, own_tracks, replay, taken_of}
use Rattle.yp_attempt.specs.Content.{Content}
use Rattle.yp_attempt.specs.Moments.{Moment}
use Rattle.yp_attempt.specs.Runs.{Standing, Run, Reaches, first_run}
use Rattle.yp_attempt.specs.Tracks.{Answer, Attempt}
use Rattle.yp_world.specs.Holding.{AreOf, Holds, IsDeliveryOf, IsOwnRunOf, Serves, absorbed_by}
use Rattle.yp_world.specs.World.{Delivery, Setup, World, receivers_of, with_workers, worker_of}
use Rattle.yp_world.proofs.Numbers.{one_of}

-- the laws of runs of several receivers that are rested on
pub record RunLaws : Type 0 where
  pub part : (c : Content) (receiver : ℕ) (receivers : List ℕ) → IsOneOf receiver receivers → (past : List Moment) (answers : List Answer) (run : Run) → Reaches c receivers past answers run
      → Reaches c (receiver ∷ []) past (answers_in (of_receiver receiver run.done)) (own_run receiver run)
  pub replays : (c : Content) (receivers : List ℕ) (past : List Moment) (answers : List Answer) (run : Run) → Reaches c receivers past answers run
      → replay c receivers first_run past answers ≡ record { run = run; rest = []; left = [] }

module _ (setup : Setup) (world : World) (h : Holds setup world) (receiver : ℕ) (delivery : Delivery) (standing : Standing) (are : AreOf setup world receiver delivery standing) where
  abbrev serves : Serves setup world (worker_of setup receiver) standing
  serves = h.serves (worker_of setup receiver) standing are.stands

  -- its attempts
  abbrev pub own_attempts : List Attempt
  own_attempts = of_receiver receiver serves.done

  -- and its run
  abbrev pub own_part : Run
  own_part = own_run receiver (record { standing = standing; done = serves.done })

  pub its_delivery : IsDeliveryOf delivery own_attempts
  its_delivery = serves.delivers receiver delivery are.delivers refl

  -- the end of its replay
  abbrev own_end : Replayed
  own_end = record { run = own_part; rest = []; left = [] }

  module _ (runs : RunLaws) (small : receiver < length setup.places) where
    pub own_reaches : Reaches setup.content (receiver ∷ []) (absorbed_by world standing) (answers_in own_attempts) own_part
    own_reaches =
        runs.part setup.content receiver (receivers_of setup (worker_of setup receiver)) (one_of setup.workers receiver (length setup.places) small) (absorbed_by world standing) (answers_in serves.done) (record { standing = standing; done = serves.done }) serves.reaches

    pub own_replay : replay setup.content (receiver ∷ []) first_run (absorbed_by world standing) delivery.answers ≡ own_end
    own_replay =
        ap (λ (answers : List Answer). replay setup.content (receiver ∷ []) first_run (absorbed_by world standing) answers) (sym its_delivery.answers)
        ∙ runs.replays setup.content (receiver ∷ []) (absorbed_by world standing) (answers_in own_attempts) own_part own_reaches

    -- which the definition makes
    pub own_run_of : IsOwnRunOf setup world receiver delivery standing (replay setup.content (receiver ∷ []) first_run (absorbed_by world standing) delivery.answers).run
    own_run_of = subst (λ (end : Replayed). IsOwnRunOf setup world receiver delivery standing end.run) (sym own_replay) (record { stands = refl; reaches = own_reaches; delivers = its_delivery })

-- ---- two worlds

module _ (runs : RunLaws) (setup : Setup) (others : ℕ) (one two : World) (h : Holds setup one) (k : Holds (with_workers setup others) two) (receiver : ℕ) (small : receiver < length setup.places) (first second : Delivery) (here there : Standing)
    (is : AreOf setup one receiver first here) (it : AreOf (with_workers setup others) two receiver second there) (past : absorbed_by one here ≡ absorbed_by two there) (answers : first.answers ≡ second.answers) where
  same_end : own_end setup one h receiver first here is ≡ own_end (with_workers setup others) two k receiver second there it
  same_end =
      sym (own_replay setup one h receiver first here is runs small)
      ∙ ((λ i. replay setup.content (receiver ∷ []) first_run (past i) (answers i)) ∙ own_replay (with_workers setup others) two k receiver second there it runs small)

  pub same_sent : first.taken ++ first.queue ≡ second.taken ++ second.queue
  same_sent =
      sym (its_delivery setup one h receiver first here is).accepted
      ∙ (ap (λ (end : Replayed). taken_of end.run.done) same_end ∙ (its_delivery (with_workers setup others) two k receiver second there it).accepted)

  pub same_tracks : own_tracks receiver here.tracks ≡ own_tracks receiver there.tracks
  same_tracks = ap (λ (end : Replayed). end.run.standing.tracks) same_end
