-- Running worlds, and steps of them.
use Rattle.std.proofs.Common.{◌≡◌, ℕ, ◌+◌, ◌<◌, ◌≤◌, true, false, refl, sym, ap, subst, ◌∙◌, List, [], ◌∷◌, ◌++◌, map, length, take, Option, Some, None, arith, length-append}
use Rattle.std.specs.Option.{is_some}
use Rattle.std.specs.Prelude.{slice_set}
use Rattle.std.specs.List.{slice_get}
use Rattle.std.proofs.lemmas.List.{length-map, map-set}
use Rattle.std.proofs.lemmas.Option.{same_Some, slice_get_past, slice_get_within}
use Rattle.yp_schema.specs.declared.schema.SchemaNode.{SchemaNode}
use Rattle.yp_journal.specs.declared.entry.Entry.{Entry}
use Rattle.yp_journal.specs.declared.receiver.ReceiverInfo.{ReceiverInfo}
use Rattle.yp_attempt.specs.Attempts.{answers_in}
use Rattle.yp_attempt.specs.Runs.{Reaches, Run, Standing, first_offer, waits}
use Rattle.yp_attempt.specs.Tracks.{Answer}
use Rattle.yp_moment.specs.Entries.{moments_of}
use Rattle.yp_moment.specs.Windows.{recorded}
use Rattle.yp_worker.specs.declared.offering.Sent.{Sent}
use Rattle.yp_worker.specs.declared.worker.Worker.{Worker}
use Rattle.yp_worker.specs.Workers.{HasFound, HasOffered, IsIdleWorkerOf, IsSentBy}
use Rattle.yp_world.specs.Holding.{Holds}
use Rattle.yp_world.specs.World.{Delivery, Event, Happened, Nothing, Setup, World, first_world, receivers_of, step}
use Rattle.yp_promise.specs.Interleaving.{setup_of, world_after}
use Rattle.yp_core.specs.declared.event.Event.{Event as EventHere}
use Rattle.yp_core.specs.declared.event.Event.TheVariants as here
use Rattle.yp_core.specs.declared.event.Happened.{Happened as HappenedHere}
use Rattle.yp_core.specs.declared.event.Happened.TheVariants as told
use Rattle.yp_core.specs.declared.seat.Seat.{Seat}
use Rattle.yp_core.specs.declared.world.World.{World as Core}
use Rattle.yp_core.specs.Deliveries.{DeliveryState, delivered}
use Rattle.yp_core.specs.Events.{entries_after, entry_of, event_of, happened_of, replied_to}
use Rattle.yp_core.specs.Worlds.{HasStepped, IsSeatOf, IsWorldAt, IsWorldOf}
use Rattle.yp_core.proofs.Elements.{get_image}
use Rattle.yp_core.proofs.Steps.{Keeps, Unchanged, one_event_more}

-- ---- laws

-- what a worker offers is what its run offers
abbrev pub Offers : Type 0
Offers = (nodes : List SchemaNode) (start : ℕ) (receivers : List ReceiverInfo) (mine : List ℕ) (entries : List Entry) (answers : List Answer) (sent : Sent) (worker : Worker)
    → HasOffered nodes start receivers mine entries answers sent worker → (run : Run) → Reaches recorded mine (moments_of nodes receivers entries) answers run → IsSentBy nodes start run sent

-- it has nothing to offer exactly where its run hasn't
abbrev pub Idle : Type 0
Idle = (nodes : List SchemaNode) (start : ℕ) (receivers : List ReceiverInfo) (mine : List ℕ) (entries : List Entry) (answers : List Answer) (worker : Worker)
    → IsIdleWorkerOf nodes start receivers mine entries answers worker → (run : Run) → Reaches recorded mine (moments_of nodes receivers entries) answers run → waits recorded run ≡ None

-- ---- options

pub there_is : {X : Type 0} (o : Option X) → is_some o ≡ true → (x : X) × (o ≡ Some x)
there_is None e = cc
there_is (Some x) e = (x, refl)

pub there_is_none : {X : Type 0} (o : Option X) → is_some o ≡ false → o ≡ None
there_is_none None e = refl
there_is_none (Some x) e = cc

-- ---- workers

module _ (nodes : List SchemaNode) (start : ℕ) (receivers : List ReceiverInfo) (workers : ℕ) (entries : List Entry) (number : ℕ) (seat : Seat) (standing : Standing) (is : IsSeatOf nodes start receivers workers entries number seat standing) where
  -- one with nothing out has nothing to offer
  pub seat_idle : seat.sent ≡ None → IsIdleWorkerOf nodes start receivers (receivers_of (setup_of receivers workers) number) (take standing.position entries) (answers_in is.done) seat.worker
  seat_idle none = subst (λ (o : Option Sent). HasFound nodes start receivers (receivers_of (setup_of receivers workers) number) (take standing.position entries) (answers_in is.done) o seat.worker) none is.found

  -- what is out is offered
  pub seat_offering : (sent : Sent) → seat.sent ≡ Some sent → HasOffered nodes start receivers (receivers_of (setup_of receivers workers) number) (take standing.position entries) (answers_in is.done) sent seat.worker
  seat_offering sent out = subst (λ (o : Option Sent). HasFound nodes start receivers (receivers_of (setup_of receivers workers) number) (take standing.position entries) (answers_in is.done) o seat.worker) out is.found

  pub seat_waits : Idle → seat.sent ≡ None → first_offer recorded standing.stamp standing.tracks ≡ None
  seat_waits idle none =
      idle nodes start receivers (receivers_of (setup_of receivers workers) number) (take standing.position entries) (answers_in is.done) seat.worker (seat_idle none) (record { standing = standing; done = is.done }) is.reaches

  pub seat_sends : Offers → (sent : Sent) → seat.sent ≡ Some sent → IsSentBy nodes start (record { standing = standing; done = is.done }) sent
  seat_sends offers sent out =
      offers nodes start receivers (receivers_of (setup_of receivers workers) number) (take standing.position entries) (answers_in is.done) sent seat.worker (seat_offering sent out) (record { standing = standing; done = is.done }) is.reaches

-- ---- steps

module _ (nodes : List SchemaNode) (start : ℕ) (receivers : List ReceiverInfo) (workers : ℕ) (entries : List Entry) (world : World) (event : EventHere) where
  -- a step by what the world does
  pub has_stepped : (happened : HappenedHere) (next : World) (comes : Happened) (core : Core) → step (setup_of receivers workers) world (event_of nodes receivers entries event) ≡ (next, comes)
      → IsWorldAt nodes start receivers workers (entries_after nodes receivers entries event) next core → happened ≡ happened_of nodes start (replied_to nodes receivers entries event) comes
      → HasStepped nodes start receivers workers entries world event happened core
  has_stepped happened next comes core e at tells = record {
    stands = subst (λ (r : World × Happened). IsWorldAt nodes start receivers workers (entries_after nodes receivers entries event) r.0 core) (sym e) at;
    tells = tells ∙ ap (λ (r : World × Happened). happened_of nodes start (replied_to nodes receivers entries event) r.1) (sym e);
  }

  -- what holds goes on
  pub holds_next : Keeps → (next : World) (comes : Happened) → step (setup_of receivers workers) world (event_of nodes receivers entries event) ≡ (next, comes) → Holds (setup_of receivers workers) world → Holds (setup_of receivers workers) next
  holds_next keeps next comes e holds =
      subst (λ (r : World × Happened). Holds (setup_of receivers workers) r.0) e (keeps (setup_of receivers workers) world (event_of nodes receivers entries event) holds)

  -- where nothing happens all stays
  pub nothing_done : Unchanged → (core : Core) → (step (setup_of receivers workers) world (event_of nodes receivers entries event)).1 ≡ Nothing → entries_after nodes receivers entries event ≡ entries
      → IsWorldAt nodes start receivers workers entries world core → HasStepped nodes start receivers workers entries world event told.Nothing core
  nothing_done unchanged core none same is =
      let still : (step (setup_of receivers workers) world (event_of nodes receivers entries event)).0 ≡ world = unchanged (setup_of receivers workers) world (event_of nodes receivers entries event) none in
      has_stepped told.Nothing world Nothing core (λ i. (still i, none i)) (subst (λ (es : List Entry). IsWorldAt nodes start receivers workers es world core) (sym same) is) refl

-- a step from where events lead is one event more
pub went : (nodes : List SchemaNode) (start : ℕ) (receivers : List ReceiverInfo) (workers : ℕ) (entries : List Entry) (events : List Event) (event : EventHere) (happened : HappenedHere) (core : Core)
    → HasStepped nodes start receivers workers entries (world_after receivers workers events) event happened core
    → IsWorldOf nodes start receivers workers (entries_after nodes receivers entries event) (events ++ event_of nodes receivers entries event ∷ []) core
went nodes start receivers workers entries events event happened core stepped =
    let setup : Setup = setup_of receivers workers in
    subst (λ (world : World). IsWorldAt nodes start receivers workers (entries_after nodes receivers entries event) world core) (sym (one_event_more setup (first_world setup) events (event_of nodes receivers entries event))) stepped.stands

-- the journal is longer by one entry at most
pub grows : (nodes : List SchemaNode) (receivers : List ReceiverInfo) (entries : List Entry) (event : EventHere) → length (entries_after nodes receivers entries event) ≤ length entries + 1
grows nodes receivers entries (here.Append command) = let count : length (entries ++ entry_of nodes receivers entries command ∷ []) ≡ length entries + 1 = length-append entries (entry_of nodes receivers entries command ∷ []) in omega (arith, count)
grows nodes receivers entries (here.Absorb worker) = omega arith
grows nodes receivers entries (here.Offer worker) = omega arith
grows nodes receivers entries (here.Take receiver) = omega arith

-- ---- numbers

module _ (nodes : List SchemaNode) (start : ℕ) (receivers : List ReceiverInfo) (workers : ℕ) (entries : List Entry) (world : World) (core : Core) (is : IsWorldAt nodes start receivers workers entries world core) (number : ℕ) where
  -- past the workers there is none
  pub no_worker : length core.seats.items ≤ number → slice_get world.standings number ≡ None
  no_worker past =
      let here : length core.seats.items ≡ workers = is.count in
      let there : length world.standings ≡ workers = is.holds.workers in
      slice_get_past world.standings number (omega (arith, past, here, there))

  pub deliveries_length : length core.deliveries.items ≡ length world.deliveries
  deliveries_length = ap (λ (ds : List DeliveryState). length ds) is.deliveries ∙ length-map world.deliveries (delivered nodes start)

  -- and past the receivers none
  pub no_receiver : length core.deliveries.items ≤ number → slice_get world.deliveries number ≡ None
  no_receiver past = let count : length core.deliveries.items ≡ length world.deliveries = deliveries_length in slice_get_past world.deliveries number (omega (arith, past, count))

  -- what is kept of a receiver is its delivery
  pub delivery_there : (kept : DeliveryState) → slice_get core.deliveries.items number ≡ Some kept → (delivery : Delivery) → slice_get world.deliveries number ≡ Some delivery → kept ≡ delivered nodes start delivery
  delivery_there kept e delivery there =
      let within : number < length world.deliveries = slice_get_within world.deliveries number delivery there in
      let image = get_image (delivered nodes start) world.deliveries number within in
      let same : image.0 ≡ delivery = same_Some image.0 delivery (sym image.1 ∙ there) in
      same_Some kept (delivered nodes start delivery)
      (sym e ∙ (ap (λ (ds : List DeliveryState). slice_get ds number) is.deliveries ∙ (image.2 ∙ ap (λ (d : Delivery). Some (delivered nodes start d)) same)))

  -- after one was set
  pub deliveries_set : (delivery : Delivery) (kept : DeliveryState) → kept ≡ delivered nodes start delivery → slice_set core.deliveries.items number kept ≡ map (delivered nodes start) (slice_set world.deliveries number delivery)
  deliveries_set delivery kept e =
      (λ i. slice_set (is.deliveries i) number (e i)) ∙ sym (map-set (delivered nodes start) world.deliveries number delivery)
