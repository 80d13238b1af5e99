-- Where workers stand and what is delivered to receivers at the end of a journal, and what an event makes of it.
use Rattle.std.proofs.Common.{◌≡◌, ℕ, ◌<◌, refl, sym, ap, subst, ◌∙◌, Bool, true, false, List, [], ◌∷◌, ◌++◌, map, length, Option, Some, None, arith}
use Rattle.std.specs.Prelude.{◌==◌, slice_set, option_map}
use Rattle.std.specs.List.{slice_get}
use Rattle.std.proofs.lemmas.Bool.{eqb-true}
use Rattle.std.proofs.lemmas.List.{length-map, length-set}
use Rattle.std.proofs.lemmas.Option.{same_Some, slice_get-map}
use Rattle.yp_attempt.specs.Attempts.{Notification, notification_of}
use Rattle.yp_attempt.specs.Moments.{Moment}
use Rattle.yp_attempt.specs.Runs.{Found, Standing, advanced, first_offer, settled}
use Rattle.yp_attempt.specs.Tracks.{Answer, Attempt, attempt}
use Rattle.yp_world.specs.World.{Absorb, Delivery, Event, Offer, Setup, Take, World, absorb, absorb_next, after_events, delivery_after, offer, offer_found, offer_to, queue_answer, receivers_of, step, take_first, take_from}
use Rattle.yp_attempt.specs.ElementLaws.{get_below, get_set_other, get_set_same, set_looks_same}
use Rattle.yp_world.specs.EventLaws.{after_both}
use Rattle.yp_traces.proofs.Filling.{after_first}

-- a world at the end of a journal: its workers stand here, and what is delivered to each receiver has this property
pub record IsAt (setup : Setup) (journal : List Moment) (stands : ℕ → Standing) (Has : ℕ → Delivery → Type 0) (world : World) : Type 0 where
  pub appended : world.journal ≡ journal
  pub workers : length world.standings ≡ setup.workers
  pub standings : (worker : ℕ) (standing : Standing) → slice_get world.standings worker ≡ Some standing → standing ≡ stands worker
  pub places : map (λ delivery. delivery.places) world.deliveries ≡ setup.places
  pub delivers : (receiver : ℕ) (delivery : Delivery) → slice_get world.deliveries receiver ≡ Some delivery → Has receiver delivery

-- events lead from a world to such a world
pub record ComesTo (setup : Setup) (journal : List Moment) (stands : ℕ → Standing) (Has : ℕ → Delivery → Type 0) (world : World) : Type 0 where
  pub events : List Event
  pub comes : IsAt setup journal stands Has (after_events setup world events)

module _ {setup : Setup} {journal : List Moment} where
  pub stays : {stands : ℕ → Standing} {Has : ℕ → Delivery → Type 0} {world : World} → IsAt setup journal stands Has world → ComesTo setup journal stands Has world
  stays h = record { events = []; comes = h }

  pub then_comes : {stands later : ℕ → Standing} {Has Now : ℕ → Delivery → Type 0} {world : World} → ComesTo setup journal stands Has world
      → ((next : World) → IsAt setup journal stands Has next → ComesTo setup journal later Now next) → ComesTo setup journal later Now world
  then_comes {stands} {later} {Has} {Now} {world} first further =
      let next : World = after_events setup world first.events in
      let second : ComesTo setup journal later Now next = further next first.comes in
      record { events = first.events ++ second.events; comes = subst (λ (w : World). IsAt setup journal later Now w) (sym (after_both setup world first.events second.events)) second.comes }

  module _ {stands : ℕ → Standing} {Has : ℕ → Delivery → Type 0} {world : World} (h : IsAt setup journal stands Has world) where
    -- ---- what is there

    pub worker_there : (worker : ℕ) → worker < setup.workers → slice_get world.standings worker ≡ Some (stands worker)
    worker_there worker less =
        let many : length world.standings ≡ setup.workers = h.workers in
        let its = get_below world.standings worker (omega (arith, many, less)) in
        its.1 ∙ ap (λ (s : Standing). Some s) (h.standings worker its.0 its.1)

    pub as_many : length world.deliveries ≡ length setup.places
    as_many = sym (length-map world.deliveries (λ (d : Delivery). d.places)) ∙ ap (λ (ns : List ℕ). length ns) h.places

    pub delivery_there : (receiver : ℕ) → receiver < length setup.places → (delivery : Delivery) × (slice_get world.deliveries receiver ≡ Some delivery)
    delivery_there receiver less =
        let many : length world.deliveries ≡ length setup.places = as_many in
        get_below world.deliveries receiver (omega (arith, many, less))

    pub its_places : (receiver : ℕ) (delivery : Delivery) → slice_get world.deliveries receiver ≡ Some delivery → slice_get setup.places receiver ≡ Some delivery.places
    its_places receiver delivery at =
        ap (λ (ns : List ℕ). slice_get ns receiver) (sym h.places) ∙ (slice_get-map (λ (d : Delivery). d.places) world.deliveries receiver ∙ ap (λ (o : Option Delivery). option_map (λ d. d.places) o) at)

    -- ---- what changes

    -- less is said of deliveries
    pub weaker : (Now : ℕ → Delivery → Type 0) → ((receiver : ℕ) (delivery : Delivery) → Has receiver delivery → Now receiver delivery) → IsAt setup journal stands Now world
    weaker Now so = record { appended = h.appended; workers = h.workers; standings = h.standings; places = h.places; delivers = λ receiver delivery at. so receiver delivery (h.delivers receiver delivery at) }

    -- one delivery is set
    pub delivery_set : (Now : ℕ → Delivery → Type 0) (receiver : ℕ) (old new : Delivery) → slice_get world.deliveries receiver ≡ Some old → new.places ≡ old.places → Now receiver new
        → ((x : ℕ) (delivery : Delivery) → (receiver == x) ≡ false → Has x delivery → Now x delivery) → IsAt setup journal stands Now (record world { deliveries = slice_set world.deliveries receiver new })
    delivery_set Now receiver old new at same now others = record {
      appended = h.appended;
      workers = h.workers;
      standings = h.standings;
      places = set_looks_same (λ (d : Delivery). d.places) world.deliveries receiver old new at same ∙ h.places;
      delivers = λ x delivery there. by x delivery there (receiver == x) refl;
    }
      where
        by : (x : ℕ) (delivery : Delivery) → slice_get (slice_set world.deliveries receiver new) x ≡ Some delivery → (b : Bool) → (receiver == x) ≡ b → Now x delivery
        by x delivery there true e =
            let is : receiver ≡ x = eqb-true receiver x e in
            let new_one : new ≡ delivery = same_Some new delivery (sym (get_set_same world.deliveries receiver old new at) ∙ (ap (λ (y : ℕ). slice_get (slice_set world.deliveries receiver new) y) is ∙ there)) in
            subst (λ (y : ℕ × Delivery). Now y.0 y.1) (λ i. (is i, new_one i)) now
        by x delivery there false e = others x delivery e (h.delivers x delivery (sym (get_set_other world.deliveries receiver x new e) ∙ there))

    -- one standing is set
    pub standing_set : (later : ℕ → Standing) (worker : ℕ) (old new : Standing) → slice_get world.standings worker ≡ Some old → new ≡ later worker → ((x : ℕ) → (worker == x) ≡ false → stands x ≡ later x)
        → IsAt setup journal later Has (record world { standings = slice_set world.standings worker new })
    standing_set later worker old new at now others = record {
      appended = h.appended;
      workers = length-set world.standings worker new ∙ h.workers;
      standings = λ x standing there. by x standing there (worker == x) refl;
      places = h.places;
      delivers = h.delivers;
    }
      where
        by : (x : ℕ) (standing : Standing) → slice_get (slice_set world.standings worker new) x ≡ Some standing → (b : Bool) → (worker == x) ≡ b → standing ≡ later x
        by x standing there true e =
            let is : worker ≡ x = eqb-true worker x e in
            let new_one : new ≡ standing = same_Some new standing (sym (get_set_same world.standings worker old new at) ∙ (ap (λ (y : ℕ). slice_get (slice_set world.standings worker new) y) is ∙ there)) in
            sym new_one ∙ (now ∙ ap later is)
        by x standing there false e = h.standings x standing (sym (get_set_other world.standings worker x new e) ∙ there) ∙ others x e

-- ---- events

-- the attempt of what is found, with an answer
abbrev pub attempt_by : Setup → Standing → Found → Answer → Attempt
attempt_by setup standing found answer = attempt setup.content standing.position standing.stamp found.track found.item answer

module _ (setup : Setup) (world : World) where
  pub take_step : (receiver : ℕ) (delivery : Delivery) (n : Notification) (queue : List Notification) → slice_get world.deliveries receiver ≡ Some delivery → delivery.queue ≡ n ∷ queue
      → (step setup world (Take receiver)).0 ≡ record world { deliveries = slice_set world.deliveries receiver (after_first delivery n queue) }
  take_step receiver delivery n queue at is =
      ap (λ (o : Option Delivery). (take_from world receiver o).0) at ∙ ap (λ (ns : List Notification). (take_first world receiver delivery ns).0) is

  pub absorb_step : (worker : ℕ) (standing : Standing) (m : Moment) → slice_get world.standings worker ≡ Some standing → first_offer setup.content standing.stamp standing.tracks ≡ None → slice_get world.journal standing.position ≡ Some m
      → (step setup world (Absorb worker)).0 ≡ record world { standings = slice_set world.standings worker (advanced setup.content (receivers_of setup worker) m standing) }
  absorb_step worker standing m at idle next =
      ap (λ (o : Option Standing). (absorb setup world worker o).0) at ∙ (λ i. (absorb_next setup world worker standing (idle i) (next i)).0)

  -- the world after an answer
  abbrev pub answered : ℕ → Standing → Found → Delivery → Answer → World
  answered worker standing found delivery answer = record world {
    standings = slice_set world.standings worker (record standing { tracks = settled setup.content standing found answer });
    deliveries = slice_set world.deliveries found.track.feed.receiver (delivery_after answer (notification_of (attempt_by setup standing found answer)) delivery);
  }

  pub offer_step : (worker : ℕ) (standing : Standing) (found : Found) (delivery : Delivery) (answer : Answer) → slice_get world.standings worker ≡ Some standing → first_offer setup.content standing.stamp standing.tracks ≡ Some found
      → slice_get world.deliveries found.track.feed.receiver ≡ Some delivery → queue_answer delivery ≡ answer → (step setup world (Offer worker)).0 ≡ answered worker standing found delivery answer
  offer_step worker standing found delivery answer at offers there is =
      ap (λ (o : Option Standing). (offer setup world worker o).0) at
      ∙ (ap (λ (o : Option Found). (offer_found setup world worker standing o).0) offers
      ∙ (ap (λ (o : Option Delivery). (offer_to setup world worker standing found o).0) there ∙ ap (answered worker standing found delivery) is))
