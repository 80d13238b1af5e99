-- Of which entries and events a running world is the world, and what a step makes of it.
use Rattle.std.specs.Prelude.{◌≡◌, ℕ, ◌^◌, ◌<◌, ◌≤◌, false, List, [], map, length, take, None, Some}
use Rattle.std.specs.List.{slice_get}
use Rattle.yp_schema.specs.declared.schema.SchemaNode.{SchemaNode}
use Rattle.yp_schema.specs.WellFormed.{IsSchema}
use Rattle.yp_journal.specs.declared.entry.Entry.{Entry}
use Rattle.yp_journal.specs.declared.receiver.ReceiverInfo.{ReceiverInfo}
use Rattle.yp_journal.specs.History.{IsLegal, first_state, state_of}
use Rattle.yp_attempt.specs.Attempts.{answers_in}
use Rattle.yp_attempt.specs.Runs.{Reaches, Standing}
use Rattle.yp_attempt.specs.Tracks.{Attempt}
use Rattle.yp_attempt.specs.Workers.{numbers_of}
use Rattle.yp_moment.specs.Entries.{moments_of}
use Rattle.yp_moment.specs.Windows.{recorded}
use Rattle.yp_worker.specs.Workers.{HasFound, IsIdleWorkerOf}
use Rattle.yp_world.specs.Holding.{Holds}
use Rattle.yp_world.specs.World.{Event, World, receivers_of, step}
use Rattle.yp_promise.specs.Interleaving.{setup_of, world_after}
use Rattle.yp_core.specs.declared.event.Event.{Event as EventHere}
use Rattle.yp_core.specs.declared.event.Happened.{Happened as HappenedHere}
use Rattle.yp_core.specs.declared.seat.Seat.{Seat}
use Rattle.yp_core.specs.declared.world.World.{World as Core}
use Rattle.yp_core.specs.Deliveries.{delivered}
use Rattle.yp_core.specs.Events.{entries_after, event_of, happened_of, replied_to}

-- ---- workers

-- each element of a list stands for the element of another one at its place
abbrev pub StandFor : {X Y : Type 0} → (ℕ → X → Y → Type 0) → List X → List Y → Type 0
StandFor {X} {Y} P xs ys = (n : ℕ) (x : X) → slice_get xs n ≡ Some x → (y : Y) × (slice_get ys n ≡ Some y) × P n x y

-- the worker of a number stands for one of the world: it absorbed as many entries, it stands for these and for the answers to its attempts, and it has made its next offer, if it has one
pub record IsSeatOf (nodes : List SchemaNode) (start : ℕ) (receivers : List ReceiverInfo) (workers : ℕ) (entries : List Entry) (number : ℕ) (seat : Seat) (standing : Standing) : Type 0 where
  pub done : List Attempt
  pub reaches : Reaches recorded (receivers_of (setup_of receivers workers) number) (moments_of nodes receivers (take standing.position entries)) (answers_in done) (record { standing = standing; done = done })
  pub position : seat.position ≡ standing.position
  pub within : standing.position ≤ length entries
  pub found : HasFound nodes start receivers (receivers_of (setup_of receivers workers) number) (take standing.position entries) (answers_in done) seat.sent seat.worker

-- a worker before the first entry has nothing to offer
pub record IsOpened (nodes : List SchemaNode) (start : ℕ) (receivers : List ReceiverInfo) (workers number : ℕ) (seat : Seat) : Type 0 where
  pub position : seat.position ≡ 0
  pub sent : seat.sent ≡ None
  pub idle : IsIdleWorkerOf nodes start receivers (numbers_of number workers (length receivers)) [] [] seat.worker

-- ---- worlds

-- a running world is this one, with a legal journal of these entries: it keeps them and the state that they leave, each of its workers stands for that of its number, and what is delivered is delivered in packets
pub record IsWorldAt (nodes : List SchemaNode) (start : ℕ) (receivers : List ReceiverInfo) (workers : ℕ) (entries : List Entry) (world : World) (core : Core) : Type 0 where
  pub schema : IsSchema nodes
  pub legal : IsLegal nodes (first_state receivers) entries
  pub few : length entries < 2 ^ 32
  pub some : 0 < workers
  pub holds : Holds (setup_of receivers workers) world
  pub journal : world.journal ≡ moments_of nodes receivers entries
  pub kept : core.entries.items ≡ entries
  pub state : core.state ≡ state_of nodes (first_state receivers) entries
  pub count : length core.seats.items ≡ workers
  pub seats : StandFor (IsSeatOf nodes start receivers workers entries) core.seats.items world.standings
  pub deliveries : core.deliveries.items ≡ map (delivered nodes start) world.deliveries
  pub unspent : core.spent ≡ false

-- it is the world of the entries after these events
abbrev pub IsWorldOf : List SchemaNode → ℕ → List ReceiverInfo → ℕ → List Entry → List Event → Core → Type 0
IsWorldOf nodes start receivers workers entries events core = IsWorldAt nodes start receivers workers entries (world_after receivers workers events) core

-- so it is of some entries and events
pub record IsSomeWorld (nodes : List SchemaNode) (core : Core) : Type 0 where
  pub start : ℕ
  pub receivers : List ReceiverInfo
  pub workers : ℕ
  pub entries : List Entry
  pub events : List Event
  pub is : IsWorldOf nodes start receivers workers entries events core

-- ---- steps

-- a step does what the world does by the event, and what it tells is what happened
pub record HasStepped (nodes : List SchemaNode) (start : ℕ) (receivers : List ReceiverInfo) (workers : ℕ) (entries : List Entry) (world : World) (event : EventHere) (happened : HappenedHere) (core : Core) : Type 0 where
  pub stands : IsWorldAt nodes start receivers workers (entries_after nodes receivers entries event) (step (setup_of receivers workers) world (event_of nodes receivers entries event)).0 core
  pub tells : happened ≡ happened_of nodes start (replied_to nodes receivers entries event) (step (setup_of receivers workers) world (event_of nodes receivers entries event)).1
