-- The world before the first event.
use Rattle.std.proofs.Common.{◌≡◌, ℕ, ◌<◌, refl, sym, ap, subst, ◌∙◌, false, List, [], ◌∷◌, length, map, Option, Some, arith, lit<}
use Rattle.std.specs.List.{slice_get}
use Rattle.std.proofs.lemmas.List.{length-map}
use Rattle.std.proofs.lemmas.Option.{slice_get_within}
use Rattle.yp_schema.specs.declared.schema.SchemaNode.{SchemaNode}
use Rattle.yp_schema.specs.WellFormed.{IsSchema}
use Rattle.yp_journal.specs.declared.receiver.ReceiverInfo.{ReceiverInfo}
use Rattle.yp_journal.specs.History.{first_state}
use Rattle.yp_attempt.specs.Runs.{first_run, opened}
use Rattle.yp_attempt.specs.Workers.{numbers_of}
use Rattle.yp_worker.specs.declared.offering.Sent.{Sent}
use Rattle.yp_worker.specs.Workers.{HasFound, IsIdleWorkerOf}
use Rattle.yp_world.specs.Holding.{Holds}
use Rattle.yp_world.specs.World.{Setup, first_delivery, first_world}
use Rattle.yp_promise.specs.Interleaving.{setup_of}
use Rattle.yp_core.specs.declared.seat.Seat.{Seat}
use Rattle.yp_core.specs.declared.world.World.{World as Core}
use Rattle.yp_core.specs.Deliveries.{DeliveryState, delivered, nothing_delivered}
use Rattle.yp_core.specs.Worlds.{IsOpened, IsSeatOf, IsWorldOf}
use Rattle.yp_core.proofs.Elements.{among_equal}

-- what holds of the first world
abbrev pub HoldsFirst : Type 0
HoldsFirst = (setup : Setup) → Holds setup (first_world setup)

-- nothing is delivered in packets
none_delivered : (nodes : List SchemaNode) (start : ℕ) (receivers : List ReceiverInfo)
    → map (λ (receiver : ReceiverInfo). nothing_delivered receiver.places) receivers ≡ map (delivered nodes start) (map first_delivery (map (λ (receiver : ReceiverInfo). receiver.places) receivers))
none_delivered nodes start [] = refl
none_delivered nodes start (receiver ∷ receivers) = ap (λ (ds : List DeliveryState). nothing_delivered receiver.places ∷ ds) (none_delivered nodes start receivers)

pub opens : HoldsFirst → (nodes : List SchemaNode) (start : ℕ) (receivers : List ReceiverInfo) (workers : ℕ) (core : Core) → IsSchema nodes → 0 < workers
    → core.entries.items ≡ [] → core.state ≡ first_state receivers → length core.seats.items ≡ workers
    → ((number : ℕ) (seat : Seat) → slice_get core.seats.items number ≡ Some seat → IsOpened nodes start receivers workers number seat)
    → core.deliveries.items ≡ map (λ (receiver : ReceiverInfo). nothing_delivered receiver.places) receivers → core.spent ≡ false
    → IsWorldOf nodes start receivers workers [] [] core
opens holds nodes start receivers workers core schema some none state count each deliveries unspent = record {
  schema = schema;
  legal = tt;
  few = lit< tt;
  some = some;
  holds = holds (setup_of receivers workers);
  journal = refl;
  kept = none;
  state = state;
  count = count;
  seats = λ number seat there.
      let within : number < length core.seats.items = slice_get_within core.seats.items number seat there in
      (first_run.standing, among_equal workers number first_run.standing (omega (arith, within, count)), seated number seat (each number seat there));
  deliveries = deliveries ∙ none_delivered nodes start receivers;
  unspent = unspent;
}
  where
    places : length receivers ≡ length (map (λ (receiver : ReceiverInfo). receiver.places) receivers)
    places = sym (length-map receivers (λ receiver. receiver.places))

    seated : (number : ℕ) (seat : Seat) → IsOpened nodes start receivers workers number seat → IsSeatOf nodes start receivers workers [] number seat first_run.standing
    seated number seat is = record {
      done = [];
      reaches = opened;
      position = is.position;
      within = omega arith;
      found = subst (λ (o : Option Sent). HasFound nodes start receivers (numbers_of number workers (length (map (λ (receiver : ReceiverInfo). receiver.places) receivers))) [] [] o seat.worker) (sym is.sent)
          (subst (λ (count : ℕ). IsIdleWorkerOf nodes start receivers (numbers_of number workers count) [] [] seat.worker) places is.idle);
    }
