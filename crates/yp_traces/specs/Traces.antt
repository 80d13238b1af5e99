-- What workers did over a whole journal beside each other, as a list of events, and what it promises receivers (RFC 8639 sections 2.4 and 2.7).
use Rattle.std.specs.Prelude.{◌≡◌, ℕ, ◌<◌, ◌%◌, List, [], map, length, Some}
use Rattle.std.specs.List.{slice_get}
use Rattle.yp_schema.specs.declared.schema.SchemaNode.{SchemaNode}
use Rattle.yp_journal.specs.declared.entry.Entry.{Entry}
use Rattle.yp_journal.specs.declared.receiver.ReceiverInfo.{ReceiverInfo}
use Rattle.yp_attempt.specs.Attempts.{FillsFirst, answers_in, of_receiver, taken_of}
use Rattle.yp_attempt.specs.Moments.{Moment}
use Rattle.yp_attempt.specs.Runs.{Reaches, Run}
use Rattle.yp_attempt.specs.Tracks.{Attempt}
use Rattle.yp_world.specs.World.{Delivery, Event, Setup, World, after_events, first_world, receivers_of, worker_of}
use Rattle.yp_promise.specs.Interleaving.{AppendAll}
use Rattle.yp_promise.specs.Promise.{Serves}

-- what a worker did over a whole journal: the entries and the answers that it got lead to its run, and each queue of its receivers was full only where it could be
pub record IsWorkOf (setup : Setup) (journal : List Moment) (worker : ℕ) (run : Run) : Type 0 where
  pub reaches : Reaches setup.content (receivers_of setup worker) journal (answers_in run.done) run
  pub fulls : (receiver places : ℕ) → slice_get setup.places receiver ≡ Some places → FillsFirst places (of_receiver receiver run.done)

-- a receiver was offered these attempts: its queue gave their answers, all that it accepted was taken, in order, and nothing stands there
pub record HasTakenAll (offered : List Attempt) (delivery : Delivery) : Type 0 where
  pub answers : delivery.answers ≡ answers_in offered
  pub taken : delivery.taken ≡ taken_of offered
  pub queue : delivery.queue ≡ []

-- a world at the end of a journal: each worker stands where its run does, and each receiver has taken all that its worker's run sent it
pub record IsWorldOf (setup : Setup) (journal : List Moment) (runs : List Run) (world : World) : Type 0 where
  pub appended : world.journal ≡ journal
  pub standings : world.standings ≡ map (λ run. run.standing) runs
  pub delivers : (receiver : ℕ) (delivery : Delivery) (run : Run) → slice_get world.deliveries receiver ≡ Some delivery → slice_get runs (worker_of setup receiver) ≡ Some run → HasTakenAll (of_receiver receiver run.done) delivery

-- a list of events leads to such a world
pub record HasTrace (setup : Setup) (journal : List Moment) (runs : List Run) : Type 0 where
  pub events : List Event
  pub leads : IsWorldOf setup journal runs (after_events setup (first_world setup) events)

-- ---- of a legal journal

-- receivers are served by workers that followed a journal beside each other, as many as there are runs: some list of events does the same, and all that is promised of events holds of what each receiver's worker offered to it, all of which it took where its queue accepted it
pub record AreServedBeside (nodes : List SchemaNode) (receivers : List ReceiverInfo) (entries : List Entry) (runs : List Run) : Type 0 where
  pub events : List Event
  pub append : AppendAll nodes receivers (length runs) entries events
  pub serves : (receiver : ℕ) (run : Run) → receiver < length receivers → slice_get runs (receiver % length runs) ≡ Some run
      → Serves nodes receivers entries receiver (of_receiver receiver run.done) (taken_of (of_receiver receiver run.done))
