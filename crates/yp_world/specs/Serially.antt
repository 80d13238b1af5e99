-- When a world is that of a serial run: it has one worker, which stands where the run does, and each receiver has what it has there, notification for notification.
use Rattle.std.specs.Prelude.{◌≡◌, ℕ, List, [], ◌∷◌, take, drop, Some}
use Rattle.std.specs.List.{slice_get}
use Rattle.yp_attempt.specs.Attempts.{answers_in, of_receiver, taken_of}
use Rattle.yp_attempt.specs.Moments.{Moment}
use Rattle.yp_attempt.specs.Runs.{Standing}
use Rattle.yp_serial.specs.Posts.{Queueing}
use Rattle.yp_serial.specs.Serial.{Served}
use Rattle.yp_world.specs.World.{Delivery, Event, Setup, World, after_events, post_of}

-- a world of one worker
abbrev pub with_one_worker : List Moment → Standing → List Delivery → World
with_one_worker journal standing deliveries = record { journal = journal; standings = standing ∷ []; deliveries = deliveries }

-- a receiver's delivery is that of a serial run: its queue gave the answers that it gave there, it took and holds as many as by its post, and of what was accepted there it took the first, and the rest stands in the queue, in order
pub record IsDeliveryIn (served : Served) (receiver : ℕ) (delivery : Delivery) : Type 0 where
  pub answers : delivery.answers ≡ answers_in (of_receiver receiver served.run.done)
  pub post : post_of delivery ≡ served.posts receiver
  pub taken : delivery.taken ≡ take (served.posts receiver).taken (taken_of (of_receiver receiver served.run.done))
  pub queue : delivery.queue ≡ drop (served.posts receiver).taken (taken_of (of_receiver receiver served.run.done))

-- events lead from a world to one of this journal that is that of a serial run
pub record LeadTo (setup : Setup) (world : World) (journal : List Moment) (served : Served) : Type 0 where
  pub events : List Event
  pub deliveries : List Delivery
  pub lead : after_events setup world events ≡ with_one_worker journal served.run.standing deliveries
  pub delivers : (receiver : ℕ) (delivery : Delivery) → slice_get deliveries receiver ≡ Some delivery → IsDeliveryIn served receiver delivery

-- each receiver has the places that are said
abbrev pub HavePlaces : List ℕ → Queueing → Type 0
HavePlaces places q = (receiver count : ℕ) → slice_get places receiver ≡ Some count → q.places receiver ≡ count
