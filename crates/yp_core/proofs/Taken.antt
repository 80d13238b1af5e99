-- A receiver takes.
use Rattle.std.proofs.Common.{◌≡◌, ℕ, ◌<◌, ◌≤◌, refl, sym, ap, subst, ◌∙◌, false, List, [], ◌∷◌, ◌++◌, length, map, take, drop, Option, Some, None, arith, append-nil}
use Rattle.std.specs.Prelude.{slice_set}
use Rattle.std.specs.List.{slice_get}
use Rattle.std.proofs.lemmas.List.{map-append}
use Rattle.yp_schema.specs.declared.schema.SchemaNode.{SchemaNode}
use Rattle.yp_journal.specs.declared.entry.Entry.{Entry}
use Rattle.yp_journal.specs.declared.receiver.ReceiverInfo.{ReceiverInfo}
use Rattle.yp_queue.specs.declared.packet.Packet.{Packet}
use Rattle.yp_attempt.specs.Attempts.{Notification}
use Rattle.yp_attempt.specs.Runs.{Standing}
use Rattle.yp_world.specs.Holding.{Holds}
use Rattle.yp_world.specs.World.{Delivery, Nothing, Setup, Take, Taken, World, step}
use Rattle.yp_promise.specs.Interleaving.{setup_of}
use Rattle.yp_core.specs.declared.event.Event.TheVariants as events
use Rattle.yp_core.specs.declared.event.Happened.{Happened as HappenedHere}
use Rattle.yp_core.specs.declared.event.Happened.TheVariants as told
use Rattle.yp_core.specs.declared.seat.Seat.{Seat}
use Rattle.yp_core.specs.declared.world.World.{World as Core}
use Rattle.yp_core.specs.Deliveries.{DeliveryState, delivered, packed, took_oldest}
use Rattle.yp_core.specs.Worlds.{HasStepped, IsSeatOf, IsWorldAt, StandFor}
use Rattle.yp_core.proofs.Elements.{get_image, set_to_same}
use Rattle.yp_core.proofs.Steps.{Keeps, Unchanged, takes_first, takes_none}
use Rattle.yp_core.proofs.Worlds.{deliveries_length, deliveries_set, delivery_there, has_stepped, holds_next, no_receiver, nothing_done}

-- what a take comes to
abbrev pub taken_as : Option Packet → HappenedHere
taken_as None = told.Nothing
taken_as (Some packet) = told.Taken packet

-- of an empty queue nothing is taken
took_nothing : (nodes : List SchemaNode) (start : ℕ) (delivery : Delivery) → delivery.queue ≡ [] → took_oldest (delivered nodes start delivery) ≡ delivered nodes start delivery
took_nothing nodes start delivery empty = λ i. record {
  queue = record { packets = ((λ j. drop 1 (map (packed nodes start) (empty j))) ∙ ap (λ (ns : List Notification). map (packed nodes start) ns) (sym empty)) i; places = delivery.places };
  taken = ((λ j. map (packed nodes start) delivery.taken ++ take 1 (map (packed nodes start) (empty j))) ∙ append-nil (map (packed nodes start) delivery.taken)) i;
  answers = delivery.answers;
}

-- what a delivery is after the first of its queue was taken
abbrev without_first : Delivery → Notification → List Notification → Delivery
without_first delivery notification queue = record delivery { queue = queue; taken = delivery.taken ++ notification ∷ [] }

took_first : (nodes : List SchemaNode) (start : ℕ) (delivery : Delivery) (notification : Notification) (queue : List Notification) → delivery.queue ≡ notification ∷ queue
    → took_oldest (delivered nodes start delivery) ≡ delivered nodes start (without_first delivery notification queue)
took_first nodes start delivery notification queue first = λ i. record {
  queue = record { packets = drop 1 (map (packed nodes start) (first i)); places = delivery.places };
  taken = ((λ j. map (packed nodes start) delivery.taken ++ take 1 (map (packed nodes start) (first j))) ∙ sym (map-append (packed nodes start) delivery.taken (notification ∷ []))) i;
  answers = delivery.answers;
}

module _ (nodes : List SchemaNode) (start : ℕ) (receivers : List ReceiverInfo) (workers : ℕ) (entries : List Entry) (world : World) (core : Core) (is : IsWorldAt nodes start receivers workers entries world core) (number : ℕ) where
  -- there is no such receiver
  pub taken_by_none : Unchanged → length core.deliveries.items ≤ number → HasStepped nodes start receivers workers entries world (events.Take number) told.Nothing core
  taken_by_none unchanged past =
      nothing_done nodes start receivers workers entries world (events.Take number) unchanged core (takes_none (setup_of receivers workers) world number (no_receiver nodes start receivers workers entries world core is number past)) refl is

  module _ (left : Core) (seats : left.seats ≡ core.seats) (kept : left.entries ≡ core.entries) (state : left.state ≡ core.state) (unspent : left.spent ≡ false) where
    -- the world with what else is delivered
    still_at : (next : World) → next.journal ≡ world.journal → next.standings ≡ world.standings → Holds (setup_of receivers workers) next → left.deliveries.items ≡ map (delivered nodes start) next.deliveries → IsWorldAt nodes start receivers workers entries next left
    still_at next journal standings holds deliveries = record {
      schema = is.schema;
      legal = is.legal;
      few = is.few;
      some = is.some;
      holds = holds;
      journal = journal ∙ is.journal;
      kept = ap (λ those. those.items) kept ∙ is.kept;
      state = state ∙ is.state;
      count = ap (λ those. length those.items) seats ∙ is.count;
      seats = subst (λ (those : List Standing). StandFor (IsSeatOf nodes start receivers workers entries) left.seats.items those) (sym standings)
          (subst (λ (those : List Seat). StandFor (IsSeatOf nodes start receivers workers entries) those world.standings) (ap (λ those. those.items) (sym seats)) is.seats);
      deliveries = deliveries;
      unspent = unspent;
    }

    pub taken : Keeps → number < length core.deliveries.items → (d : DeliveryState) → slice_get core.deliveries.items number ≡ Some d → left.deliveries.items ≡ slice_set core.deliveries.items number (took_oldest d)
        → HasStepped nodes start receivers workers entries world (events.Take number) (taken_as (slice_get d.queue.packets 0)) left
    taken keeps below d there changed =
        let setup : Setup = setup_of receivers workers in
        let count : length core.deliveries.items ≡ length world.deliveries = deliveries_length nodes start receivers workers entries world core is number in
        let image = get_image (delivered nodes start) world.deliveries number (omega (arith, below, count)) in
        by image.0 image.1 (delivery_there nodes start receivers workers entries world core is number d there image.0 image.1) image.0.queue refl
      where
        by : (delivery : Delivery) → slice_get world.deliveries number ≡ Some delivery → d ≡ delivered nodes start delivery → (queue : List Notification) → delivery.queue ≡ queue
            → HasStepped nodes start receivers workers entries world (events.Take number) (taken_as (slice_get d.queue.packets 0)) left
        by delivery at same [] empty =
            let setup : Setup = setup_of receivers workers in
            let comes : step setup world (Take number) ≡ (world, Nothing) = takes_first setup world number delivery [] at empty in
            let none : slice_get d.queue.packets 0 ≡ None = ap (λ (k : DeliveryState). slice_get k.queue.packets 0) same ∙ ap (λ (ns : List Notification). slice_get (map (packed nodes start) ns) 0) empty in
            let still : left.deliveries.items ≡ core.deliveries.items =
            changed ∙ (ap (λ (k : DeliveryState). slice_set core.deliveries.items number k) (ap took_oldest same ∙ (took_nothing nodes start delivery empty ∙ sym same)) ∙ set_to_same core.deliveries.items number d there) in
            has_stepped nodes start receivers workers entries world (events.Take number) (taken_as (slice_get d.queue.packets 0)) world Nothing left comes (still_at world refl refl is.holds (still ∙ is.deliveries)) (ap taken_as none)
        by delivery at same (notification ∷ queue) first =
            let setup : Setup = setup_of receivers workers in
            let next : World = record world { deliveries = slice_set world.deliveries number (without_first delivery notification queue) } in
            let comes : step setup world (Take number) ≡ (next, Taken notification) = takes_first setup world number delivery (notification ∷ queue) at first in
            let one : slice_get d.queue.packets 0 ≡ Some (packed nodes start notification) =
            ap (λ (k : DeliveryState). slice_get k.queue.packets 0) same ∙ ap (λ (ns : List Notification). slice_get (map (packed nodes start) ns) 0) first in
            let holds : Holds setup next = holds_next nodes start receivers workers entries world (events.Take number) keeps next (Taken notification) comes is.holds in
            let deliveries : left.deliveries.items ≡ map (delivered nodes start) next.deliveries =
            changed ∙ deliveries_set nodes start receivers workers entries world core is number (without_first delivery notification queue) (took_oldest d) (ap took_oldest same ∙ took_first nodes start delivery notification queue first) in
            has_stepped nodes start receivers workers entries world (events.Take number) (taken_as (slice_get d.queue.packets 0)) next (Taken notification) left comes (still_at next refl refl holds deliveries) (ap taken_as one)
