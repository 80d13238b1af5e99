-- The world: a journal, workers that follow it, and the queues of receivers; and what each event makes of it (RFC 8639 sections 2.4 and 2.7, RFC 8641 sections 3.1, 3.3 and 3.11).
use Rattle.std.specs.Prelude.{ℕ, ◌+◌, ◌%◌, nat_le, Bool, true, false, not, ◌&&◌, List, [], ◌∷◌, ◌++◌, map, length, replicate, slice_set, Option, Some, None}
use Rattle.std.specs.List.{slice_get}
use Rattle.yp_attempt.specs.Attempts.{Notification, notification_of}
use Rattle.yp_attempt.specs.Content.{Content}
use Rattle.yp_attempt.specs.Moments.{Moment, Act, Quiet, Starts, Controls, Drops, last_stamp, was_started}
use Rattle.yp_attempt.specs.Runs.{Standing, Found, first_run, first_offer, settled, advanced}
use Rattle.yp_attempt.specs.Tracks.{Attempt, Answer, Took, Full, attempt}
use Rattle.yp_attempt.specs.Workers.{numbers_of}
use Rattle.yp_serial.specs.Posts.{Post, answer_by}

-- ---- the world

-- what is delivered to a receiver: how many notifications may stand in its queue, those that stand there, those that it took, and what the queue answered to offers
pub record Delivery : Type 0 where
  pub places : ℕ
  pub queue : List Notification
  pub taken : List Notification
  pub answers : List Answer

-- the entries of the journal, where each worker stands, and what is delivered to each receiver
pub record World : Type 0 where
  pub journal : List Moment
  pub standings : List Standing
  pub deliveries : List Delivery

-- what feeds know of rows, how many workers there are, and how many notifications may stand in the queue of each receiver
pub record Setup : Type 0 where
  pub content : Content
  pub workers : ℕ
  pub places : List ℕ

-- the same content and the same receivers, with so many workers
abbrev pub with_workers : Setup → ℕ → Setup
with_workers setup workers = record setup { workers = workers }

-- a receiver to whom nothing was offered
abbrev pub first_delivery : ℕ → Delivery
first_delivery places = record { places = places; queue = []; taken = []; answers = [] }

-- the world before the first event
abbrev pub first_world : Setup → World
first_world setup = record { journal = []; standings = replicate setup.workers first_run.standing; deliveries = map first_delivery setup.places }

-- the worker of a receiver: the remainder of the receiver's number by the number of workers
abbrev pub worker_of : Setup → ℕ → ℕ
worker_of setup receiver = receiver % setup.workers

-- the receivers of a worker, in order
abbrev pub receivers_of : Setup → ℕ → List ℕ
receivers_of setup worker = numbers_of worker setup.workers (length setup.places)

-- ---- events

-- an entry is appended to the journal, a worker absorbs the next entry, a worker offers a notification to the queue of its receiver, or a receiver takes the first of its queue
pub data Event : Type 0 where
  Append : (m : Moment) → Event
  Absorb : (worker : ℕ) → Event
  Offer : (worker : ℕ) → Event
  Take : (receiver : ℕ) → Event

-- what an event comes to: an entry was appended; a worker came to a position; a receiver's queue accepted what was offered at a position, or was full when a subscription offered; a receiver took a notification; or nothing, where it can't be done
pub data Happened : Type 0 where
  Appended : Happened
  Absorbed : (position : ℕ) → Happened
  Accepted : (receiver position : ℕ) → Happened
  MetFull : (receiver sub position : ℕ) → Happened
  Taken : (notification : Notification) → Happened
  Nothing : Happened

-- ---- an entry is appended

-- whether an act starts only what was not started before
abbrev pub is_unused : List Moment → Act → Bool
is_unused past Quiet = true
is_unused past (Starts sub trigger configured names) = not (was_started past sub)
is_unused past (Controls sub control) = true
is_unused past (Drops sub) = true

-- whether an entry may come after others
abbrev pub may_follow : List Moment → Moment → Bool
may_follow past m = nat_le (last_stamp 0 past) m.stamp && is_unused past m.act

-- it is appended where it may come
abbrev pub append_if : Bool → World → Moment → World × Happened
append_if true world m = (record world { journal = world.journal ++ m ∷ [] }, Appended)
append_if false world m = (world, Nothing)

-- ---- a worker absorbs the next entry

-- where nothing is offered and there is a next entry, the worker is one entry further
abbrev pub absorb_next : Setup → World → ℕ → Standing → Option Found → Option Moment → World × Happened
absorb_next setup world worker standing None (Some m) =
    (record world { standings = slice_set world.standings worker (advanced setup.content (receivers_of setup worker) m standing) }, Absorbed (standing.position + 1))
absorb_next setup world worker standing None None = (world, Nothing)
absorb_next setup world worker standing (Some found) next = (world, Nothing)

abbrev pub absorb : Setup → World → ℕ → Option Standing → World × Happened
absorb setup world worker None = (world, Nothing)
absorb setup world worker (Some standing) = absorb_next setup world worker standing (first_offer setup.content standing.stamp standing.tracks) (slice_get world.journal standing.position)

-- ---- a worker offers

-- how many notifications stand in a queue, and how many were taken
abbrev pub post_of : Delivery → Post
post_of delivery = record { held = length delivery.queue; taken = length delivery.taken }

-- what the queue answers: it accepts where it has a free place
abbrev pub queue_answer : Delivery → Answer
queue_answer delivery = answer_by delivery.places (post_of delivery)

-- what is delivered after an answer: what is accepted stands last in the queue
abbrev pub delivery_after : Answer → Notification → Delivery → Delivery
delivery_after Took notification delivery = record delivery { queue = delivery.queue ++ notification ∷ []; answers = delivery.answers ++ Took ∷ [] }
delivery_after Full notification delivery = record delivery { answers = delivery.answers ++ Full ∷ [] }

abbrev pub comes_of : Attempt → Answer → Happened
comes_of a Took = Accepted a.receiver a.at
comes_of a Full = MetFull a.receiver a.sub a.at

-- the attempt of what is found, with the answer of the queue to which it is offered
abbrev pub attempt_of : Setup → Standing → Found → Delivery → Attempt
attempt_of setup standing found delivery = attempt setup.content standing.position standing.stamp found.track found.item (queue_answer delivery)

-- what is found is offered to the queue of its receiver, and the worker is told the answer
abbrev pub offer_to : Setup → World → ℕ → Standing → Found → Option Delivery → World × Happened
offer_to setup world worker standing found None = (world, Nothing)
offer_to setup world worker standing found (Some delivery) = (
  record world {
    standings = slice_set world.standings worker (record standing { tracks = settled setup.content standing found (queue_answer delivery) });
    deliveries = slice_set world.deliveries found.track.feed.receiver (delivery_after (queue_answer delivery) (notification_of (attempt_of setup standing found delivery)) delivery);
  },
  comes_of (attempt_of setup standing found delivery) (queue_answer delivery),
)

abbrev pub offer_found : Setup → World → ℕ → Standing → Option Found → World × Happened
offer_found setup world worker standing None = (world, Nothing)
offer_found setup world worker standing (Some found) = offer_to setup world worker standing found (slice_get world.deliveries found.track.feed.receiver)

abbrev pub offer : Setup → World → ℕ → Option Standing → World × Happened
offer setup world worker None = (world, Nothing)
offer setup world worker (Some standing) = offer_found setup world worker standing (first_offer setup.content standing.stamp standing.tracks)

-- ---- a receiver takes

-- the first of the queue goes last among what was taken
abbrev pub take_first : World → ℕ → Delivery → List Notification → World × Happened
take_first world receiver delivery [] = (world, Nothing)
take_first world receiver delivery (notification ∷ queue) =
    (record world { deliveries = slice_set world.deliveries receiver (record delivery { queue = queue; taken = delivery.taken ++ notification ∷ [] }) }, Taken notification)

abbrev pub take_from : World → ℕ → Option Delivery → World × Happened
take_from world receiver None = (world, Nothing)
take_from world receiver (Some delivery) = take_first world receiver delivery delivery.queue

-- ---- steps

-- the world after an event, and what happened; an event that can't be done changes nothing
abbrev pub step : Setup → World → Event → World × Happened
step setup world (Append m) = append_if (may_follow world.journal m) world m
step setup world (Absorb worker) = absorb setup world worker (slice_get world.standings worker)
step setup world (Offer worker) = offer setup world worker (slice_get world.standings worker)
step setup world (Take receiver) = take_from world receiver (slice_get world.deliveries receiver)

-- the world after a list of events
abbrev pub after_events : Setup → World → List Event → World
after_events setup world [] = world
after_events setup world (event ∷ events) = after_events setup (step setup world event).0 events
