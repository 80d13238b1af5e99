-- What is promised a receiver of a legal journal however writers, workers and receivers interleave.
use Rattle.std.specs.Prelude.{◌≡◌, ℕ, ◌<◌, ◌≤◌, List, [], ◌∷◌, ◌++◌, map, length, take, Some}
use Rattle.std.specs.List.{slice_get}
use Rattle.yp_schema.specs.declared.schema.SchemaNode.{SchemaNode}
use Rattle.yp_journal.specs.declared.entry.Entry.{Entry}
use Rattle.yp_journal.specs.declared.receiver.ReceiverInfo.{ReceiverInfo}
use Rattle.yp_attempt.specs.Attempts.{attempts, replay, stream}
use Rattle.yp_attempt.specs.Runs.{Reaches, Standing, first_run}
use Rattle.yp_moment.specs.Entries.{moments_of}
use Rattle.yp_moment.specs.Windows.{recorded}
use Rattle.yp_world.specs.Holding.{AreOf}
use Rattle.yp_world.specs.Serially.{LeadTo}
use Rattle.yp_world.specs.World.{Delivery, Event, Setup, World, after_events, first_world}
use Rattle.yp_promise.specs.Promise.{Serves}
use Rattle.yp_promise.specs.Serving.{run_of}

-- so many workers, and the receivers as they are declared; what feeds know of rows is what they know of selections of a datastore
abbrev pub setup_of : List ReceiverInfo → ℕ → Setup
setup_of receivers workers = record { content = recorded; workers = workers; places = map (λ receiver. receiver.places) receivers }

-- the world after a list of events
abbrev pub world_after : List ReceiverInfo → ℕ → List Event → World
world_after receivers workers events = after_events (setup_of receivers workers) (first_world (setup_of receivers workers)) events

-- events whose world has the journal of these entries
abbrev pub AppendAll : List SchemaNode → List ReceiverInfo → ℕ → List Entry → List Event → Type 0
AppendAll nodes receivers workers entries events = (world_after receivers workers events).journal ≡ moments_of nodes receivers entries

-- a receiver is served by the world after these events: the answers that its queue gave lead over all the entries that its worker absorbed; what the queue accepted is what the definition makes for it of these entries, with these answers; it took that, or it stands in the queue, in order; and all that is promised holds
pub record IsServedAfter (nodes : List SchemaNode) (receivers : List ReceiverInfo) (workers : ℕ) (entries : List Entry) (events : List Event) (receiver : ℕ) : Type 0 where
  pub delivery : Delivery
  pub standing : Standing
  pub are : AreOf (setup_of receivers workers) (world_after receivers workers events) receiver delivery standing
  pub within : standing.position ≤ length entries
  pub reaches : Reaches recorded (receiver ∷ []) (moments_of nodes receivers (take standing.position entries)) delivery.answers (replay recorded (receiver ∷ []) first_run (moments_of nodes receivers (take standing.position entries)) delivery.answers).run
  pub accepted : stream recorded receiver (moments_of nodes receivers (take standing.position entries)) delivery.answers ≡ delivery.taken ++ delivery.queue
  pub places : slice_get (map (λ receiver. receiver.places) receivers) receiver ≡ Some delivery.places
  pub fits : length delivery.queue ≤ delivery.places
  pub serves : Serves nodes receivers (take standing.position entries) receiver (attempts recorded (receiver ∷ []) (moments_of nodes receivers (take standing.position entries)) delivery.answers) delivery.taken

-- each receiver is served by each interleaving of a journal: by every list of events that appends its entries, with one worker or more
abbrev pub EachInterleavingServes : List SchemaNode → List ReceiverInfo → List Entry → Type 0
EachInterleavingServes nodes receivers entries = (workers : ℕ) (events : List Event) → 0 < workers → AppendAll nodes receivers workers entries events
    → (receiver : ℕ) → receiver < length receivers → IsServedAfter nodes receivers workers entries events receiver

-- one of them, with one worker, is the serial run of a journal, notification for notification: there are events that lead to the world of the journal in which the worker stands where the serial run does, each queue gave the same answers, each receiver took the same notifications in the same order, and the same stand in its queue
abbrev pub OneIsTheSerialRun : List SchemaNode → List ReceiverInfo → List Entry → Type 0
OneIsTheSerialRun nodes receivers entries =
    LeadTo (setup_of receivers 1) (first_world (setup_of receivers 1)) (moments_of nodes receivers entries) (run_of nodes receivers entries)
