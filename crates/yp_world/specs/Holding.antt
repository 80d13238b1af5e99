-- What holds of the world at every moment: each worker serves its receivers, and what their queues accepted they took, or it stands there; and which events can be done.
use Rattle.std.specs.Prelude.{◌≡◌, ℕ, ◌<◌, ◌≤◌, List, [], ◌∷◌, ◌++◌, map, length, take, Some, None}
use Rattle.std.specs.List.{slice_get}
use Rattle.yp_attempt.specs.Attempts.{Notification, answers_in, of_receiver, own_tracks, taken_of}
use Rattle.yp_attempt.specs.Moments.{Moment, MayFollow, AllMayFollow}
use Rattle.yp_attempt.specs.Runs.{Standing, Found, Run, Reaches, first_offer}
use Rattle.yp_attempt.specs.Tracks.{Attempt}
use Rattle.yp_world.specs.World.{Delivery, World, Setup, Event, Append, Absorb, Offer, Take, receivers_of, worker_of}

-- the entries of the journal that a worker absorbed
abbrev pub absorbed_by : World → Standing → List Moment
absorbed_by world standing = take standing.position world.journal

-- a receiver's delivery, and where its worker stands
pub record AreOf (setup : Setup) (world : World) (receiver : ℕ) (delivery : Delivery) (standing : Standing) : Type 0 where
  pub delivers : slice_get world.deliveries receiver ≡ Some delivery
  pub stands : slice_get world.standings (worker_of setup receiver) ≡ Some standing

-- a delivery is that of the attempts for its receiver: the queue answered them, what it accepted was taken or stands there, and no more stand there than may
pub record IsDeliveryOf (delivery : Delivery) (offered : List Attempt) : Type 0 where
  pub answers : answers_in offered ≡ delivery.answers
  pub accepted : taken_of offered ≡ delivery.taken ++ delivery.queue
  pub fits : length delivery.queue ≤ delivery.places

-- a receiver's part of what its worker did: with its tracks alone the worker stands where the entries that it absorbed and the receiver's own answers lead, and the delivery is that of its attempts
pub record IsOwnRunOf (setup : Setup) (world : World) (receiver : ℕ) (delivery : Delivery) (standing : Standing) (run : Run) : Type 0 where
  pub stands : run.standing ≡ record standing { tracks = own_tracks receiver standing.tracks }
  pub reaches : Reaches setup.content (receiver ∷ []) (absorbed_by world standing) (answers_in run.done) run
  pub delivers : IsDeliveryOf delivery run.done

-- a worker serves: it stands where the entries that it absorbed and the answers to its attempts lead, and of these each of its receivers has its delivery
pub record Serves (setup : Setup) (world : World) (worker : ℕ) (standing : Standing) : Type 0 where
  pub done : List Attempt
  pub reaches : Reaches setup.content (receivers_of setup worker) (absorbed_by world standing) (answers_in done) (record { standing = standing; done = done })
  pub within : standing.position ≤ length world.journal
  pub delivers : (receiver : ℕ) (delivery : Delivery) → slice_get world.deliveries receiver ≡ Some delivery → worker_of setup receiver ≡ worker → IsDeliveryOf delivery (of_receiver receiver done)

-- the journal is legal, there are so many workers, each of which serves, and as many receivers, with their places
pub record Holds (setup : Setup) (world : World) : Type 0 where
  pub legal : AllMayFollow [] world.journal
  pub workers : length world.standings ≡ setup.workers
  pub places : map (λ delivery. delivery.places) world.deliveries ≡ setup.places
  pub serves : (worker : ℕ) (standing : Standing) → slice_get world.standings worker ≡ Some standing → Serves setup world worker standing

-- ---- which events can be done

-- a worker has absorbed all before an entry, and offers nothing
pub record CanAbsorb (setup : Setup) (world : World) (worker : ℕ) : Type 0 where
  pub standing : Standing
  pub stands : slice_get world.standings worker ≡ Some standing
  pub idle : first_offer setup.content standing.stamp standing.tracks ≡ None
  pub behind : standing.position < length world.journal

-- a worker has something to offer
pub record CanOffer (setup : Setup) (world : World) (worker : ℕ) : Type 0 where
  pub standing : Standing
  pub stands : slice_get world.standings worker ≡ Some standing
  pub found : Found
  pub offers : first_offer setup.content standing.stamp standing.tracks ≡ Some found

-- something stands in a receiver's queue
pub record CanTake (world : World) (receiver : ℕ) : Type 0 where
  pub delivery : Delivery
  pub delivers : slice_get world.deliveries receiver ≡ Some delivery
  pub first : Notification
  pub later : List Notification
  pub queue : delivery.queue ≡ first ∷ later

-- an event can be done: an entry may come after those of the journal, a worker can absorb or offer, or a receiver can take
abbrev pub CanBeDone : Setup → World → Event → Type 0
CanBeDone setup world (Append m) = MayFollow world.journal m
CanBeDone setup world (Absorb worker) = CanAbsorb setup world worker
CanBeDone setup world (Offer worker) = CanOffer setup world worker
CanBeDone setup world (Take receiver) = CanTake world receiver
