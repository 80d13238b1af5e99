-- Steps of the world.
use Rattle.std.proofs.Common.{◌≡◌, ℕ, ◌+◌, refl, sym, ap, subst, ◌∙◌, Bool, true, false, List, [], ◌∷◌, ◌++◌, Option, Some, None, append-nil, append_assoc}
use Rattle.std.specs.Prelude.{slice_set, ◌↔◌}
use Rattle.std.specs.List.{slice_get}
use Rattle.yp_attempt.specs.Moments.{Moment, MayFollow, AllMayFollow}
use Rattle.yp_attempt.specs.Runs.{Standing, Found, first_offer, advanced}
use Rattle.yp_attempt.specs.Attempts.{Notification}
use Rattle.yp_world.specs.Holding.{CanBeDone, Holds}
use Rattle.yp_world.specs.World.{Delivery, World, Setup, Event, Append, Absorb, Offer, Take, Appended, Absorbed, Nothing, receivers_of, may_follow, append_if, absorb_next, absorb, offer_to, offer_found, offer, take_first, take_from, step, after_events}

-- ---- laws

-- each event keeps what holds
abbrev pub Keeps : Type 0
Keeps = (setup : Setup) (world : World) (event : Event) → Holds setup world → Holds setup (step setup world event).0

-- nothing happens exactly where an event can't be done
abbrev pub Exactly : Type 0
Exactly = (setup : Setup) (world : World) → Holds setup world → (event : Event) → ((step setup world event).1 ≡ Nothing) ↔ (CanBeDone setup world event → ⊥)

-- then nothing changes
abbrev pub Unchanged : Type 0
Unchanged = (setup : Setup) (world : World) (event : Event) → (step setup world event).1 ≡ Nothing → (step setup world event).0 ≡ world

-- ---- lists of events

-- one event more is one step more
pub one_event_more : (setup : Setup) (world : World) (events : List Event) (event : Event) → after_events setup world (events ++ event ∷ []) ≡ (step setup (after_events setup world events) event).0
one_event_more setup world [] event = refl
one_event_more setup world (first ∷ events) event = one_event_more setup (step setup world first).0 events event

-- ---- an entry is appended

-- an entry may come after those before it
pub follows_there : (past before : List Moment) (m : Moment) (after : List Moment) → AllMayFollow past (before ++ m ∷ after) → MayFollow (past ++ before) m
follows_there past [] m after all = subst (λ (those : List Moment). MayFollow those m) (sym (append-nil past)) all.0
follows_there past (x ∷ before) m after all =
    subst (λ (those : List Moment). MayFollow those m) (append_assoc past (x ∷ []) before) (follows_there (past ++ x ∷ []) before m after all.1)

appended_by : (world : World) (m : Moment) (b : Bool) → ((append_if b world m).1 ≡ Nothing → ⊥) → append_if b world m ≡ (record world { journal = world.journal ++ m ∷ [] }, Appended)
appended_by world m true happens = refl
appended_by world m false happens = absurd (happens refl)

-- one that may come after those of the journal is appended
pub appends : Exactly → (setup : Setup) (world : World) → Holds setup world → (m : Moment) → MayFollow world.journal m → step setup world (Append m) ≡ (record world { journal = world.journal ++ m ∷ [] }, Appended)
appends exactly setup world holds m may = appended_by world m (may_follow world.journal m) (λ nothing. (exactly setup world holds (Append m)).0 nothing may)

-- ---- a worker absorbs

-- where nothing is offered, the next entry is absorbed
pub absorbs : (setup : Setup) (world : World) (worker : ℕ) (standing : Standing) (m : Moment) → slice_get world.standings worker ≡ Some standing → first_offer setup.content standing.stamp standing.tracks ≡ None → slice_get world.journal standing.position ≡ Some m
    → step setup world (Absorb worker) ≡ (record world { standings = slice_set world.standings worker (advanced setup.content (receivers_of setup worker) m standing) }, Absorbed (standing.position + 1))
absorbs setup world worker standing m stands idle next =
    ap (λ (o : Option Standing). absorb setup world worker o) stands ∙ (λ i. absorb_next setup world worker standing (idle i) (next i))

pub absorbs_none : (setup : Setup) (world : World) (worker : ℕ) → slice_get world.standings worker ≡ None → (step setup world (Absorb worker)).1 ≡ Nothing
absorbs_none setup world worker none = ap (λ (o : Option Standing). (absorb setup world worker o).1) none

pub absorbs_while_offering : (setup : Setup) (world : World) (worker : ℕ) (standing : Standing) (found : Found) → slice_get world.standings worker ≡ Some standing → first_offer setup.content standing.stamp standing.tracks ≡ Some found → (step setup world (Absorb worker)).1 ≡ Nothing
absorbs_while_offering setup world worker standing found stands offers =
    ap (λ (o : Option Standing). (absorb setup world worker o).1) stands
    ∙ ap (λ (o : Option Found). (absorb_next setup world worker standing o (slice_get world.journal standing.position)).1) offers

pub absorbs_at_end : (setup : Setup) (world : World) (worker : ℕ) (standing : Standing) → slice_get world.standings worker ≡ Some standing → first_offer setup.content standing.stamp standing.tracks ≡ None → slice_get world.journal standing.position ≡ None → (step setup world (Absorb worker)).1 ≡ Nothing
absorbs_at_end setup world worker standing stands idle none =
    ap (λ (o : Option Standing). (absorb setup world worker o).1) stands ∙ (λ i. (absorb_next setup world worker standing (idle i) (none i)).1)

-- ---- a worker offers

-- what is found is offered to its queue
pub offers_to : (setup : Setup) (world : World) (worker : ℕ) (standing : Standing) (found : Found) (delivery : Delivery) → slice_get world.standings worker ≡ Some standing → first_offer setup.content standing.stamp standing.tracks ≡ Some found → slice_get world.deliveries found.track.feed.receiver ≡ Some delivery
    → step setup world (Offer worker) ≡ offer_to setup world worker standing found (Some delivery)
offers_to setup world worker standing found delivery stands offers there =
    ap (λ (o : Option Standing). offer setup world worker o) stands
    ∙ (ap (λ (o : Option Found). offer_found setup world worker standing o) offers
    ∙ ap (λ (o : Option Delivery). offer_to setup world worker standing found o) there)

pub offers_none : (setup : Setup) (world : World) (worker : ℕ) → slice_get world.standings worker ≡ None → (step setup world (Offer worker)).1 ≡ Nothing
offers_none setup world worker none = ap (λ (o : Option Standing). (offer setup world worker o).1) none

pub offers_idle : (setup : Setup) (world : World) (worker : ℕ) (standing : Standing) → slice_get world.standings worker ≡ Some standing → first_offer setup.content standing.stamp standing.tracks ≡ None → (step setup world (Offer worker)).1 ≡ Nothing
offers_idle setup world worker standing stands idle =
    ap (λ (o : Option Standing). (offer setup world worker o).1) stands ∙ ap (λ (o : Option Found). (offer_found setup world worker standing o).1) idle

-- there is a queue for what is found
pub queue_there : Exactly → (setup : Setup) (world : World) → Holds setup world → (worker : ℕ) (standing : Standing) (found : Found) → slice_get world.standings worker ≡ Some standing → first_offer setup.content standing.stamp standing.tracks ≡ Some found
    → (delivery : Delivery) × (slice_get world.deliveries found.track.feed.receiver ≡ Some delivery)
queue_there exactly setup world holds worker standing found stands offers = by (slice_get world.deliveries found.track.feed.receiver) refl
  where
    at_option : (o : Option Delivery) → slice_get world.deliveries found.track.feed.receiver ≡ o → (step setup world (Offer worker)).1 ≡ (offer_to setup world worker standing found o).1
    at_option o there =
        ap (λ (s : Option Standing). (offer setup world worker s).1) stands
        ∙ (ap (λ (f : Option Found). (offer_found setup world worker standing f).1) offers
        ∙ ap (λ (d : Option Delivery). (offer_to setup world worker standing found d).1) there)

    by : (o : Option Delivery) → slice_get world.deliveries found.track.feed.receiver ≡ o → (delivery : Delivery) × (slice_get world.deliveries found.track.feed.receiver ≡ Some delivery)
    by None there = absurd ((exactly setup world holds (Offer worker)).0 (at_option None there) (record { standing = standing; stands = stands; found = found; offers = offers }))
    by (Some delivery) there = (delivery, there)

-- ---- a receiver takes

pub takes_first : (setup : Setup) (world : World) (receiver : ℕ) (delivery : Delivery) (queue : List Notification) → slice_get world.deliveries receiver ≡ Some delivery → delivery.queue ≡ queue → step setup world (Take receiver) ≡ take_first world receiver delivery queue
takes_first setup world receiver delivery queue there is =
    ap (λ (o : Option Delivery). take_from world receiver o) there ∙ ap (λ (those : List Notification). take_first world receiver delivery those) is

pub takes_none : (setup : Setup) (world : World) (receiver : ℕ) → slice_get world.deliveries receiver ≡ None → (step setup world (Take receiver)).1 ≡ Nothing
takes_none setup world receiver none = ap (λ (o : Option Delivery). (take_from world receiver o).1) none
