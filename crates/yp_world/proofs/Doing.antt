-- Nothing happens exactly where an event can't be done, and then nothing changes; and an offer meets a full queue exactly where the queue holds its places.
use Rattle.std.proofs.Common.{◌≡◌, ℕ, ◌+◌, ◌<◌, ◌≤◌, refl, sym, ap, ◌∙◌, Bool, true, false, List, [], ◌∷◌, length, Option, Some, None, arith}
use Rattle.std.specs.Prelude.{if◌then◌else◌, ◌↔◌, nat_lt}
use Rattle.std.proofs.lemmas.List.{length-map}
use Rattle.std.specs.List.{slice_get}
use Rattle.std.proofs.lemmas.Bool.{ltb-true, lt-ltb}
use Rattle.std.proofs.lemmas.Option.{slice_get_within}
use Rattle.yp_attempt.specs.Attempts.{Notification, answers_in}
use Rattle.yp_attempt.specs.Moments.{Moment, MayFollow}
use Rattle.yp_attempt.specs.Runs.{Standing, Found, first_offer}
use Rattle.yp_attempt.specs.Tracks.{Attempt, Answer, Took, Full}
use Rattle.yp_world.specs.Holding.{CanAbsorb, CanOffer, CanTake, CanBeDone, Holds, Serves, absorbed_by}
use Rattle.yp_world.specs.World.{Delivery, World, Setup, Event, Append, Absorb, Offer, Take, Absorbed, Accepted, MetFull, Taken, Nothing, worker_of, receivers_of, may_follow, append_if, absorb_next, absorb, queue_answer, attempt_of, comes_of, offer_to, offer_found, offer, take_first, take_from, step}
use Rattle.yp_attempt.specs.RunLaws.{FindsFirst, all_its, found_belongs, numbers_below, run_belongs}
use Rattle.yp_attempt.specs.ElementLaws.{get_below}
use Rattle.yp_world.specs.EventLaws.{may_tells}
use Rattle.yp_world.proofs.Events.{may_is}

-- ---- nothing changes

told_something : (a : Attempt) (answer : Answer) → comes_of a answer ≡ Nothing → ⊥
told_something a Took e = cc
told_something a Full e = cc

still_append : (b : Bool) (world : World) (m : Moment) → (append_if b world m).1 ≡ Nothing → (append_if b world m).0 ≡ world
still_append true world m e = absurd cc
still_append false world m e = refl

still_absorb : (setup : Setup) (world : World) (worker : ℕ) (standing : Standing) (found : Option Found) (next : Option Moment) → (absorb_next setup world worker standing found next).1 ≡ Nothing → (absorb_next setup world worker standing found next).0 ≡ world
still_absorb setup world worker standing None (Some m) e = absurd cc
still_absorb setup world worker standing None None e = refl
still_absorb setup world worker standing (Some found) next e = refl

still_worker : (setup : Setup) (world : World) (worker : ℕ) (o : Option Standing) → (absorb setup world worker o).1 ≡ Nothing → (absorb setup world worker o).0 ≡ world
still_worker setup world worker None e = refl
still_worker setup world worker (Some standing) e = still_absorb setup world worker standing (first_offer setup.content standing.stamp standing.tracks) (slice_get world.journal standing.position) e

still_offer_to : (setup : Setup) (world : World) (worker : ℕ) (standing : Standing) (found : Found) (o : Option Delivery) → (offer_to setup world worker standing found o).1 ≡ Nothing → (offer_to setup world worker standing found o).0 ≡ world
still_offer_to setup world worker standing found None e = refl
still_offer_to setup world worker standing found (Some delivery) e = absurd (told_something (attempt_of setup standing found delivery) (queue_answer delivery) e)

still_found : (setup : Setup) (world : World) (worker : ℕ) (standing : Standing) (o : Option Found) → (offer_found setup world worker standing o).1 ≡ Nothing → (offer_found setup world worker standing o).0 ≡ world
still_found setup world worker standing None e = refl
still_found setup world worker standing (Some found) e = still_offer_to setup world worker standing found (slice_get world.deliveries found.track.feed.receiver) e

still_offer : (setup : Setup) (world : World) (worker : ℕ) (o : Option Standing) → (offer setup world worker o).1 ≡ Nothing → (offer setup world worker o).0 ≡ world
still_offer setup world worker None e = refl
still_offer setup world worker (Some standing) e = still_found setup world worker standing (first_offer setup.content standing.stamp standing.tracks) e

still_first : (world : World) (receiver : ℕ) (delivery : Delivery) (queue : List Notification) → (take_first world receiver delivery queue).1 ≡ Nothing → (take_first world receiver delivery queue).0 ≡ world
still_first world receiver delivery [] e = refl
still_first world receiver delivery (n ∷ queue) e = absurd cc

still_take : (world : World) (receiver : ℕ) (o : Option Delivery) → (take_from world receiver o).1 ≡ Nothing → (take_from world receiver o).0 ≡ world
still_take world receiver None e = refl
still_take world receiver (Some delivery) e = still_first world receiver delivery delivery.queue e

pub nothing_changes : (setup : Setup) (world : World) (event : Event) → (step setup world event).1 ≡ Nothing → (step setup world event).0 ≡ world
nothing_changes setup world (Append m) e = still_append (may_follow world.journal m) world m e
nothing_changes setup world (Absorb worker) e = still_worker setup world worker (slice_get world.standings worker) e
nothing_changes setup world (Offer worker) e = still_offer setup world worker (slice_get world.standings worker) e
nothing_changes setup world (Take receiver) e = still_take world receiver (slice_get world.deliveries receiver) e

-- ---- an offer comes to a queue

module _ (finds : FindsFirst) (setup : Setup) (world : World) (h : Holds setup world) (worker : ℕ) (standing : Standing) (stands : slice_get world.standings worker ≡ Some standing)
    (found : Found) (offers : first_offer setup.content standing.stamp standing.tracks ≡ Some found) where
  abbrev its_receiver : ℕ
  its_receiver = found.track.feed.receiver

  serves : Serves setup world worker standing
  serves = h.serves worker standing stands

  -- the receiver of what is found is there, and its worker's
  is_there : its_receiver < length setup.places
  is_there =
      found_belongs (λ (r : ℕ). r < length setup.places) setup.content (receivers_of setup worker) (numbers_below worker setup.workers (length setup.places) (length setup.places) (omega arith)) standing.stamp standing.tracks found (finds setup.content standing.stamp standing.tracks found offers)
      (run_belongs (λ (r : ℕ). r < length setup.places) setup.content (receivers_of setup worker) (numbers_below worker setup.workers (length setup.places) (length setup.places) (omega arith)) finds (absorbed_by world standing) (answers_in serves.done)
      (record { standing = standing; done = serves.done }) serves.reaches)

  is_its : worker_of setup its_receiver ≡ worker
  is_its =
      found_belongs (λ (r : ℕ). worker_of setup r ≡ worker) setup.content (receivers_of setup worker) (all_its worker setup.workers (length setup.places)) standing.stamp standing.tracks found (finds setup.content standing.stamp standing.tracks found offers)
      (run_belongs (λ (r : ℕ). worker_of setup r ≡ worker) setup.content (receivers_of setup worker) (all_its worker setup.workers (length setup.places)) finds (absorbed_by world standing) (answers_in serves.done) (record { standing = standing; done = serves.done }) serves.reaches)

  -- and so it has its queue
  pub queue_there : (delivery : Delivery) × (slice_get world.deliveries its_receiver ≡ Some delivery)
  queue_there =
      let many : length world.deliveries ≡ length setup.places = sym (length-map world.deliveries (λ (d : Delivery). d.places)) ∙ ap (λ (ns : List ℕ). length ns) h.places in
      let less : its_receiver < length setup.places = is_there in
      get_below world.deliveries its_receiver (omega (arith, many, less))

  module _ (delivery : Delivery) (delivers : slice_get world.deliveries its_receiver ≡ Some delivery) where
    comes_to : (step setup world (Offer worker)).1 ≡ comes_of (attempt_of setup standing found delivery) (queue_answer delivery)
    comes_to =
        ap (λ (o : Option Standing). (offer setup world worker o).1) stands
        ∙ (ap (λ (o : Option Found). (offer_found setup world worker standing o).1) offers ∙ ap (λ (o : Option Delivery). (offer_to setup world worker standing found o).1) delivers)

    fits : length delivery.queue ≤ delivery.places
    fits = (serves.delivers its_receiver delivery delivers is_its).fits

    full_only : (b : Bool) → nat_lt (length delivery.queue) delivery.places ≡ b → comes_of (attempt_of setup standing found delivery) (if b then Took else Full) ≡ MetFull its_receiver found.track.feed.sub standing.position → length delivery.queue ≡ delivery.places
    full_only true e is = absurd cc
    full_only false e is = let at_most : length delivery.queue ≤ delivery.places = fits in grind (arith, e, at_most)

    accepted_only : (b : Bool) → nat_lt (length delivery.queue) delivery.places ≡ b → comes_of (attempt_of setup standing found delivery) (if b then Took else Full) ≡ Accepted its_receiver standing.position → length delivery.queue < delivery.places
    accepted_only true e is = ltb-true (length delivery.queue) delivery.places e
    accepted_only false e is = absurd cc

    no_room : length delivery.queue ≡ delivery.places → nat_lt (length delivery.queue) delivery.places ≡ false
    no_room same = grind (arith, same)

    -- a full queue is met exactly where it holds its places
    pub meets_full : ((step setup world (Offer worker)).1 ≡ MetFull its_receiver found.track.feed.sub standing.position) ↔ (length delivery.queue ≡ delivery.places)
    meets_full = (
      λ e. full_only (nat_lt (length delivery.queue) delivery.places) refl (sym comes_to ∙ e),
      λ same. comes_to ∙ ap (λ (b : Bool). comes_of (attempt_of setup standing found delivery) (if b then Took else Full)) (no_room same),
    )

    -- and is accepted exactly where there is a free place
    pub is_accepted : ((step setup world (Offer worker)).1 ≡ Accepted its_receiver standing.position) ↔ (length delivery.queue < delivery.places)
    is_accepted = (
      λ e. accepted_only (nat_lt (length delivery.queue) delivery.places) refl (sym comes_to ∙ e),
      λ less. comes_to ∙ ap (λ (b : Bool). comes_of (attempt_of setup standing found delivery) (if b then Took else Full)) (lt-ltb (length delivery.queue) delivery.places less),
    )

  -- something comes of it
  offer_happens : (step setup world (Offer worker)).1 ≡ Nothing → ⊥
  offer_happens e =
      let there = queue_there in
      told_something (attempt_of setup standing found there.0) (queue_answer there.0) (sym (comes_to there.0 there.1) ∙ e)

-- ---- an event that can be done

append_happens : (world : World) (m : Moment) → MayFollow world.journal m → (append_if (may_follow world.journal m) world m).1 ≡ Nothing → ⊥
append_happens world m may e =
    let comes = sym (ap (λ (b : Bool). (append_if b world m).1) (may_tells world.journal m may)) ∙ e in
    cc

absorb_happens : (setup : Setup) (world : World) (worker : ℕ) → CanAbsorb setup world worker → (step setup world (Absorb worker)).1 ≡ Nothing → ⊥
absorb_happens setup world worker can e =
    let next = get_below world.journal can.standing.position can.behind in
    let comes : Absorbed (can.standing.position + 1) ≡ Nothing =
    sym (ap (λ (o : Option Standing). (absorb setup world worker o).1) can.stands ∙ (λ i. (absorb_next setup world worker can.standing (can.idle i) (next.1 i)).1)) ∙ e in
    cc

take_happens : (setup : Setup) (world : World) (receiver : ℕ) → CanTake world receiver → (step setup world (Take receiver)).1 ≡ Nothing → ⊥
take_happens setup world receiver can e =
    let comes : Taken can.first ≡ Nothing =
    sym (ap (λ (o : Option Delivery). (take_from world receiver o).1) can.delivers ∙ ap (λ (ns : List Notification). (take_first world receiver can.delivery ns).1) can.queue) ∙ e in
    cc

can_happens : FindsFirst → (setup : Setup) (world : World) → Holds setup world → (event : Event) → (step setup world event).1 ≡ Nothing → CanBeDone setup world event → ⊥
can_happens finds setup world h (Append m) e can = append_happens world m can e
can_happens finds setup world h (Absorb worker) e can = absorb_happens setup world worker can e
can_happens finds setup world h (Offer worker) e can = offer_happens finds setup world h worker can.standing can.stands can.found can.offers e
can_happens finds setup world h (Take receiver) e can = take_happens setup world receiver can e

-- ---- one that can't

append_not : (world : World) (m : Moment) (b : Bool) → may_follow world.journal m ≡ b → (MayFollow world.journal m → ⊥) → (append_if b world m).1 ≡ Nothing
append_not world m true e never = absurd (never (may_is world.journal m e))
append_not world m false e never = refl

absorb_not : (setup : Setup) (world : World) (worker : ℕ) (standing : Standing) → slice_get world.standings worker ≡ Some standing → (found : Option Found) → first_offer setup.content standing.stamp standing.tracks ≡ found
    → (next : Option Moment) → slice_get world.journal standing.position ≡ next → (CanAbsorb setup world worker → ⊥) → (absorb_next setup world worker standing found next).1 ≡ Nothing
absorb_not setup world worker standing at None idle (Some m) there never = absurd (never (record { standing = standing; stands = at; idle = idle; behind = slice_get_within world.journal standing.position m there }))
absorb_not setup world worker standing at None idle None there never = refl
absorb_not setup world worker standing at (Some found) idle next there never = refl

worker_not : (setup : Setup) (world : World) (worker : ℕ) (o : Option Standing) → slice_get world.standings worker ≡ o → (CanAbsorb setup world worker → ⊥) → (absorb setup world worker o).1 ≡ Nothing
worker_not setup world worker None e never = refl
worker_not setup world worker (Some standing) e never = absorb_not setup world worker standing e (first_offer setup.content standing.stamp standing.tracks) refl (slice_get world.journal standing.position) refl never

found_not : (setup : Setup) (world : World) (worker : ℕ) (standing : Standing) → slice_get world.standings worker ≡ Some standing → (o : Option Found) → first_offer setup.content standing.stamp standing.tracks ≡ o → (CanOffer setup world worker → ⊥)
    → (offer_found setup world worker standing o).1 ≡ Nothing
found_not setup world worker standing at None e never = refl
found_not setup world worker standing at (Some found) e never = absurd (never (record { standing = standing; stands = at; found = found; offers = e }))

offer_not : (setup : Setup) (world : World) (worker : ℕ) (o : Option Standing) → slice_get world.standings worker ≡ o → (CanOffer setup world worker → ⊥) → (offer setup world worker o).1 ≡ Nothing
offer_not setup world worker None e never = refl
offer_not setup world worker (Some standing) e never = found_not setup world worker standing e (first_offer setup.content standing.stamp standing.tracks) refl never

first_not : (world : World) (receiver : ℕ) (delivery : Delivery) → slice_get world.deliveries receiver ≡ Some delivery → (queue : List Notification) → delivery.queue ≡ queue → (CanTake world receiver → ⊥) → (take_first world receiver delivery queue).1 ≡ Nothing
first_not world receiver delivery at [] e never = refl
first_not world receiver delivery at (n ∷ queue) e never = absurd (never (record { delivery = delivery; delivers = at; first = n; later = queue; queue = e }))

take_not : (world : World) (receiver : ℕ) (o : Option Delivery) → slice_get world.deliveries receiver ≡ o → (CanTake world receiver → ⊥) → (take_from world receiver o).1 ≡ Nothing
take_not world receiver None e never = refl
take_not world receiver (Some delivery) e never = first_not world receiver delivery e delivery.queue refl never

cannot : (setup : Setup) (world : World) (event : Event) → (CanBeDone setup world event → ⊥) → (step setup world event).1 ≡ Nothing
cannot setup world (Append m) never = append_not world m (may_follow world.journal m) refl never
cannot setup world (Absorb worker) never = worker_not setup world worker (slice_get world.standings worker) refl never
cannot setup world (Offer worker) never = offer_not setup world worker (slice_get world.standings worker) refl never
cannot setup world (Take receiver) never = take_not world receiver (slice_get world.deliveries receiver) refl never

pub nothing_exactly : FindsFirst → (setup : Setup) (world : World) → Holds setup world → (event : Event) → ((step setup world event).1 ≡ Nothing) ↔ (CanBeDone setup world event → ⊥)
nothing_exactly finds setup world h event = (can_happens finds setup world h event, cannot setup world event)
