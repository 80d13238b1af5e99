-- Each receiver takes all that stands in its queue.
use Rattle.std.proofs.Common.{◌≡◌, ℕ, zero, suc, ◌<◌, ◌≤◌, refl, sym, ap, subst, ◌∙◌, Bool, true, false, List, [], ◌∷◌, ◌++◌, length, Some, arith, append-nil}
use Rattle.std.specs.Prelude.{◌==◌, slice_set}
use Rattle.std.specs.List.{slice_get}
use Rattle.std.proofs.lemmas.Bool.{eqb-true}
use Rattle.std.proofs.lemmas.Option.{same_Some}
use Rattle.yp_attempt.specs.Attempts.{Notification}
use Rattle.yp_attempt.specs.Moments.{Moment}
use Rattle.yp_attempt.specs.Runs.{Standing}
use Rattle.yp_attempt.specs.Tracks.{Attempt}
use Rattle.yp_traces.specs.Traces.{HasTakenAll}
use Rattle.yp_world.specs.World.{Delivery, Setup, Take, World, after_events}
use Rattle.yp_attempt.specs.ElementLaws.{get_set_same}
use Rattle.yp_traces.proofs.Filling.{IsSent, after_first, first_sent}
use Rattle.yp_traces.proofs.Following.{ComesTo, IsAt, delivery_set, delivery_there, stays, take_step, then_comes}

-- what was sent was taken, or it stands in the queue; the first receivers have taken all
abbrev pub TakenBelow : (ℕ → List Attempt) → ℕ → ℕ → Delivery → Type 0
TakenBelow offered n receiver delivery = IsSent (offered receiver) delivery × (receiver < n → delivery.queue ≡ [])

pub has_taken_all : (offered : List Attempt) (delivery : Delivery) → IsSent offered delivery → delivery.queue ≡ [] → HasTakenAll offered delivery
has_taken_all offered delivery sent empty = record {
  answers = sent.answers;
  taken = sym (append-nil delivery.taken) ∙ (ap (λ (ns : List Notification). delivery.taken ++ ns) (sym empty) ∙ sent.accepted);
  queue = empty;
}

not_below : (n : ℕ) → n < n → ⊥
not_below n less = omega (arith, less)

module _ (setup : Setup) (journal : List Moment) (stands : ℕ → Standing) (offered : ℕ → List Attempt) where
  abbrev IsTaken : ℕ → World → Type 0
  IsTaken n world = IsAt setup journal stands (TakenBelow offered n) world

  -- a receiver with an empty queue has taken all
  one_further : (n : ℕ) (world : World) → IsTaken n world → (delivery : Delivery) → slice_get world.deliveries n ≡ Some delivery → delivery.queue ≡ [] → IsTaken (suc n) world
  one_further n world h delivery at empty = record {
    appended = h.appended;
    workers = h.workers;
    standings = h.standings;
    places = h.places;
    delivers = λ x other there. ((h.delivers x other there).0, by x other there (n == x) refl (h.delivers x other there).1);
  }
    where
      by : (x : ℕ) (other : Delivery) → slice_get world.deliveries x ≡ Some other → (b : Bool) → (n == x) ≡ b → (x < n → other.queue ≡ []) → x < suc n → other.queue ≡ []
      by x other there true e earlier less =
          let same : delivery ≡ other = same_Some delivery other (sym at ∙ (ap (λ (y : ℕ). slice_get world.deliveries y) (eqb-true n x e) ∙ there)) in
          ap (λ (d : Delivery). d.queue) (sym same) ∙ empty
      by x other there false e earlier less = let few : x < n = grind (arith, e, less) in earlier few

  takes : (n : ℕ) (queue : List Notification) (world : World) → IsTaken n world → (delivery : Delivery) → slice_get world.deliveries n ≡ Some delivery → delivery.queue ≡ queue → ComesTo setup journal stands (TakenBelow offered (suc n)) world
  takes n [] world h delivery at is = stays (one_further n world h delivery at is)
  takes n (first ∷ queue) world h delivery at is =
      let new : Delivery = after_first delivery first queue in
      let next : World = record world { deliveries = slice_set world.deliveries n new } in
      let sent : IsSent (offered n) new = first_sent first queue is (h.delivers n delivery at).0 in
      let later : ComesTo setup journal stands (TakenBelow offered (suc n)) next =
      takes n queue next
      (delivery_set h (TakenBelow offered n) n delivery new at refl (sent, λ less. absurd (not_below n less)) (λ x old other was. was))
      new (get_set_same world.deliveries n delivery new at) refl in
      record {
        events = Take n ∷ later.events;
        comes = subst (λ (w : World). IsAt setup journal stands (TakenBelow offered (suc n)) (after_events setup w later.events)) (sym (take_step setup world n delivery first queue at is)) later.comes;
      }

  -- receivers take one after the other
  pub all_take : (world : World) → IsTaken 0 world → (n : ℕ) → n ≤ length setup.places → ComesTo setup journal stands (TakenBelow offered n) world
  all_take world h zero few = stays h
  all_take world h (suc n) few =
      then_comes (all_take world h n (omega (arith, few)))
      (λ later is. let its = delivery_there is n (omega (arith, few)) in takes n its.0.queue later is its.0 its.1 refl)
