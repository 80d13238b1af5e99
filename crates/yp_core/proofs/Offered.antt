-- A worker offers.
use Rattle.std.proofs.Common.{◌≡◌, ℕ, ◌<◌, ◌≤◌, refl, sym, ap, subst, ◌∙◌, false, List, [], ◌∷◌, ◌++◌, length, take, Some, None, arith}
use Rattle.std.specs.Prelude.{slice_set}
use Rattle.std.specs.List.{slice_get}
use Rattle.std.proofs.lemmas.List.{length-set, map-append}
use Rattle.std.proofs.lemmas.Option.{slice_get_within}
use Rattle.yp_schema.specs.declared.schema.SchemaNode.{SchemaNode}
use Rattle.yp_journal.specs.declared.entry.Entry.{Entry}
use Rattle.yp_journal.specs.declared.receiver.ReceiverInfo.{ReceiverInfo}
use Rattle.yp_journal.specs.declared.reply.Reply.{Reply}
use Rattle.yp_journal.specs.declared.reply.Reply.TheVariants.{Done}
use Rattle.yp_queue.specs.declared.packet.Packet.{Packet}
use Rattle.yp_attempt.specs.Attempts.{Notification, answers_in, notification_of}
use Rattle.yp_attempt.specs.Runs.{Found, Reaches, Standing, settled, settles}
use Rattle.yp_attempt.specs.Tracks.{Answer, Attempt}
use Rattle.yp_moment.specs.Entries.{moments_of}
use Rattle.yp_moment.specs.Windows.{recorded}
use Rattle.yp_slot.specs.declared.settling.Settled.{Settled}
use Rattle.yp_slot.specs.Steps.{answer_of}
use Rattle.yp_worker.specs.declared.offering.Sent.{Sent}
use Rattle.yp_worker.specs.Workers.{HasFound, HasOffered, IsOffering, IsSentBy}
use Rattle.yp_world.specs.World.{Delivery, Offer, Setup, World, attempt_of, comes_of, delivery_after, queue_answer, receivers_of, step}
use Rattle.yp_promise.specs.Interleaving.{setup_of}
use Rattle.yp_core.specs.declared.event.Event.TheVariants as events
use Rattle.yp_core.specs.declared.event.Happened.{Happened as HappenedHere}
use Rattle.yp_core.specs.declared.event.Happened.TheVariants as told
use Rattle.yp_core.specs.declared.seat.Seat.{Seat}
use Rattle.yp_core.specs.declared.world.World.{World as Core}
use Rattle.yp_core.specs.Deliveries.{DeliveryState, delivered, packed}
use Rattle.yp_core.specs.Events.{happened_of}
use Rattle.yp_core.specs.Worlds.{HasStepped, IsSeatOf, IsWorldAt, StandFor}
use Rattle.yp_core.proofs.Elements.{set_to_same, stand_for_set}
use Rattle.yp_core.proofs.Steps.{Exactly, Keeps, Unchanged, offers_idle, offers_none, offers_to, queue_there}
use Rattle.yp_core.proofs.Worlds.{Idle, Offers, deliveries_length, deliveries_set, delivery_there, has_stepped, holds_next, no_worker, nothing_done, seat_offering, seat_sends, seat_waits}

module _ (nodes : List SchemaNode) (start : ℕ) (receivers : List ReceiverInfo) (workers : ℕ) (entries : List Entry) (world : World) (core : Core) (is : IsWorldAt nodes start receivers workers entries world core) (number : ℕ) where
  -- ---- where it can't

  -- there is no such worker
  pub offered_by_none : Unchanged → length core.seats.items ≤ number → HasStepped nodes start receivers workers entries world (events.Offer number) told.Nothing core
  offered_by_none unchanged past =
      nothing_done nodes start receivers workers entries world (events.Offer number) unchanged core (offers_none (setup_of receivers workers) world number (no_worker nodes start receivers workers entries world core is number past)) refl is

  module _ (seat : Seat) (there : slice_get core.seats.items number ≡ Some seat) where
    -- it has nothing to offer
    pub offered_nothing : Unchanged → Idle → seat.sent ≡ None → (left : Core) → left.seats.items ≡ slice_set core.seats.items number (record seat { sent = None }) → left.entries ≡ core.entries → left.state ≡ core.state → left.deliveries ≡ core.deliveries → left.spent ≡ false
        → HasStepped nodes start receivers workers entries world (events.Offer number) told.Nothing left
    offered_nothing unchanged idle none left seats kept state deliveries unspent =
        let at = is.seats number seat there in
        let same : left.seats.items ≡ core.seats.items = seats ∙ ((λ i. slice_set core.seats.items number (record seat { sent = sym none i })) ∙ set_to_same core.seats.items number seat there) in
        nothing_done nodes start receivers workers entries world (events.Offer number) unchanged left
        (offers_idle (setup_of receivers workers) world number at.0 at.1 (seat_waits nodes start receivers workers entries number seat at.0 at.2 idle none)) refl
        (record {
          schema = is.schema;
          legal = is.legal;
          few = is.few;
          some = is.some;
          holds = is.holds;
          journal = is.journal;
          kept = ap (λ es. es.items) kept ∙ is.kept;
          state = state ∙ is.state;
          count = ap (λ (those : List Seat). length those) same ∙ is.count;
          seats = subst (λ (those : List Seat). StandFor (IsSeatOf nodes start receivers workers entries) those world.standings) (sym same) is.seats;
          deliveries = ap (λ ds. ds.items) deliveries ∙ is.deliveries;
          unspent = unspent;
        })

    module _ (sent : Sent) (out : seat.sent ≡ Some sent) where
      -- ---- what it asks for

      -- there is a queue for what is out
      pub receiver_below : Exactly → Offers → sent.receiver < length core.deliveries.items
      receiver_below exactly offers =
          let at = is.seats number seat there in
          let by = seat_sends nodes start receivers workers entries number seat at.0 at.2 offers sent out in
          let queue = queue_there exactly (setup_of receivers workers) world is.holds number at.0 by.found at.1 by.waits in
          let to : sent.receiver ≡ by.found.track.feed.receiver = by.to in
          let below : by.found.track.feed.receiver < length world.deliveries = slice_get_within world.deliveries by.found.track.feed.receiver queue.0 queue.1 in
          let count : length core.deliveries.items ≡ length world.deliveries = deliveries_length nodes start receivers workers entries world core is number in
          omega (arith, to, below, count)

      -- the worker's offer is out
      pub offering_there : IsOffering nodes seat.worker
      offering_there =
          let at = is.seats number seat there in
          record {
            start = start;
            receivers = receivers;
            mine = receivers_of (setup_of receivers workers) number;
            entries = take at.0.position entries;
            answers = answers_in at.2.done;
            sent = sent;
            offered = seat_offering nodes start receivers workers entries number seat at.0 at.2 sent out;
          }

      -- ---- what it makes of the world

      pub offered : Exactly → Keeps → Offers → (answer : Settled) → (after : Seat) → after.position ≡ seat.position
          → ((start : ℕ) (receivers : List ReceiverInfo) (mine : List ℕ) (entries : List Entry) (answers : List Answer) (sent : Sent) → HasOffered nodes start receivers mine entries answers sent seat.worker → HasFound nodes start receivers mine entries (answers ++ answer_of answer ∷ []) after.sent after.worker)
          → (kept changed : DeliveryState) → slice_get core.deliveries.items sent.receiver ≡ Some kept → ((nodes : List SchemaNode) (start : ℕ) (delivery : Delivery) → kept ≡ delivered nodes start delivery → answer_of answer ≡ queue_answer delivery)
          → ((nodes : List SchemaNode) (start : ℕ) (delivery : Delivery) (notification : Notification) → kept ≡ delivered nodes start delivery → sent.packet ≡ packed nodes start notification → changed ≡ delivered nodes start (delivery_after (queue_answer delivery) notification delivery))
          → (happened : HappenedHere) → ((nodes : List SchemaNode) (start : ℕ) (reply : Reply) (a : Attempt) → a.receiver ≡ sent.receiver → a.sub ≡ sent.packet.sub → a.at ≡ seat.position → happened ≡ happened_of nodes start reply (comes_of a (answer_of answer)))
          → (left : Core) → left.seats.items ≡ slice_set core.seats.items number after → left.entries ≡ core.entries → left.state ≡ core.state → left.deliveries.items ≡ slice_set core.deliveries.items sent.receiver changed → left.spent ≡ false
          → HasStepped nodes start receivers workers entries world (events.Offer number) happened left
      offered exactly keeps offers answer after same found kept changed kept_there answers changes happened tells left seats es state deliveries unspent =
          let setup : Setup = setup_of receivers workers in
          let mine : List ℕ = receivers_of setup number in
          let at = is.seats number seat there in
          let standing : Standing = at.0 in
          let here : IsSeatOf nodes start receivers workers entries number seat standing = at.2 in
          let past : List Entry = take standing.position entries in
          let by : IsSentBy nodes start (record { standing = standing; done = here.done }) sent = seat_sends nodes start receivers workers entries number seat standing here offers sent out in
          let what : Found = by.found in
          let queue = queue_there exactly setup world is.holds number standing what at.1 by.waits in
          let delivery : Delivery = queue.0 in
          let a : Attempt = attempt_of setup standing what delivery in
          let further : Standing = record standing { tracks = settled recorded standing what (queue_answer delivery) } in
          let next_delivery : Delivery = delivery_after (queue_answer delivery) (notification_of a) delivery in
          let next_world : World = record world { standings = slice_set world.standings number further; deliveries = slice_set world.deliveries what.track.feed.receiver next_delivery } in
          let comes : step setup world (Offer number) ≡ (next_world, comes_of a (queue_answer delivery)) = offers_to setup world number standing what delivery at.1 by.waits queue.1 in
          let got : slice_get core.deliveries.items what.track.feed.receiver ≡ Some kept = subst (λ (n : ℕ). slice_get core.deliveries.items n ≡ Some kept) by.to kept_there in
          let is_kept : kept ≡ delivered nodes start delivery = delivery_there nodes start receivers workers entries world core is what.track.feed.receiver kept got delivery queue.1 in
          let answered : answer_of answer ≡ queue_answer delivery = answers nodes start delivery is_kept in
          let is_changed : changed ≡ delivered nodes start next_delivery = changes nodes start delivery (notification_of a) is_kept by.packet in
          let more : answers_in (here.done ++ a ∷ []) ≡ answers_in here.done ++ queue_answer delivery ∷ [] = map-append (λ (x : Attempt). x.answer) here.done (a ∷ []) in
          let seated : IsSeatOf nodes start receivers workers entries number after further = record {
            done = here.done ++ a ∷ [];
            reaches = subst (λ (those : List Answer). Reaches recorded mine (moments_of nodes receivers past) those (record { standing = further; done = here.done ++ a ∷ [] })) (sym more)
                (settles (moments_of nodes receivers past) (answers_in here.done) (record { standing = standing; done = here.done }) what (queue_answer delivery) here.reaches by.waits);
            position = same ∙ here.position;
            within = here.within;
            found = subst (λ (those : List Answer). HasFound nodes start receivers mine past those after.sent after.worker) (ap (λ (x : Answer). answers_in here.done ++ x ∷ []) answered ∙ sym more)
                (found start receivers mine past (answers_in here.done) sent (seat_offering nodes start receivers workers entries number seat standing here sent out));
          } in
          has_stepped nodes start receivers workers entries world (events.Offer number) happened next_world (comes_of a (queue_answer delivery)) left comes
          (record {
            schema = is.schema;
            legal = is.legal;
            few = is.few;
            some = is.some;
            holds = holds_next nodes start receivers workers entries world (events.Offer number) keeps next_world (comes_of a (queue_answer delivery)) comes is.holds;
            journal = is.journal;
            kept = ap (λ those. those.items) es ∙ is.kept;
            state = state ∙ is.state;
            count = ap (λ (those : List Seat). length those) seats ∙ (length-set core.seats.items number after ∙ is.count);
            seats = subst (λ (those : List Seat). StandFor (IsSeatOf nodes start receivers workers entries) those next_world.standings) (sym seats)
                (stand_for_set (IsSeatOf nodes start receivers workers entries) core.seats.items world.standings number after further seated is.seats);
            deliveries =
                deliveries ∙ (ap (λ (n : ℕ). slice_set core.deliveries.items n changed) by.to
                ∙ deliveries_set nodes start receivers workers entries world core is what.track.feed.receiver next_delivery changed is_changed);
            unspent = unspent;
          })
          (tells nodes start Done a (sym by.to) (sym (ap (λ (p : Packet). p.sub) by.packet)) (sym here.position) ∙ ap (λ (x : Answer). happened_of nodes start Done (comes_of a x)) answered)
