use Rattle.std.proofs.Common.{◌≡◌, ◌∙◌, ◌<◌, false, Some, None, refl, sym, length, arith}
use Rattle.std.specs.Prelude.{slice_set}
use Rattle.std.specs.List.{slice_get}
use Rattle.std.specs.Vec.{with_item}
use Rattle.std.proofs.lemmas.Option.{slice_get_read}
use Rattle.yp_promise.specs.Interleaving.{world_after}
use Rattle.yp_core.specs.Deliveries.{DeliveryState}
use Rattle.yp_core.proofs.Offered.{offered, offered_nothing, offering_there, receiver_below}
use Rattle.yp_core.proofs.world.World.offer.Goals as goal

pub index_mut-requires : goal.index_mut-requires
index_mut-requires c =
    let w = c.requires in
    let core = c.args.self.now in
    let seat = c.index_mut-seat.result.now in
    let sent = c.in-Some.sent in
    let there : slice_get core.seats.items c.args.worker ≡ Some seat = slice_get_read core.seats.items c.len.result c.args.worker seat (omega (arith, c.len.ensures, core.seats.ok.0)) c.if-number-len.false c.index_mut-seat.ensures.value in
    let below : sent.receiver < length core.deliveries.items =
    receiver_below c.args.schema.now w.start w.receivers w.workers w.entries (world_after w.receivers w.workers w.events) core w.is c.args.worker seat there sent (sym c.take.ensures.value ∙ c.in-Some.is)
    c.nothing_happens_where_an_event_cannot_be_done.ensures.exactly c.a_worker_offers_what_its_run_offers.ensures.offers in
    omega (arith, below, core.deliveries.ok.0)

pub settle-requires : goal.settle-requires
settle-requires c =
    let w = c.requires in
    let core = c.args.self.now in
    let seat = c.index_mut-seat.result.now in
    let there : slice_get core.seats.items c.args.worker ≡ Some seat = slice_get_read core.seats.items c.len.result c.args.worker seat (omega (arith, c.len.ensures, core.seats.ok.0)) c.if-number-len.false c.index_mut-seat.ensures.value in
    offering_there c.args.schema.now w.start w.receivers w.workers w.entries (world_after w.receivers w.workers w.events) core w.is c.args.worker seat there c.in-Some.sent (sym c.take.ensures.value ∙ c.in-Some.is)

pub returns-in_ok-settle-in-Some-clause-stepped : goal.returns-in_ok-settle-in-Some-clause-stepped
returns-in_ok-settle-in-Some-clause-stepped c = λ start receivers workers entries world is.
    let core = c.args.self.now in
    let seat = c.index_mut-seat.result.now in
    let sent = c.in-Some.sent in
    let there : slice_get core.seats.items c.args.worker ≡ Some seat = slice_get_read core.seats.items c.len.result c.args.worker seat (omega (arith, c.len.ensures, core.seats.ok.0)) c.if-number-len.false c.index_mut-seat.ensures.value in
    let out : seat.sent ≡ Some sent = sym c.take.ensures.value ∙ c.in-Some.is in
    let below : sent.receiver < length core.deliveries.items =
    receiver_below c.args.schema.now start receivers workers entries world core is c.args.worker seat there sent out c.nothing_happens_where_an_event_cannot_be_done.ensures.exactly c.a_worker_offers_what_its_run_offers.ensures.offers in
    let kept : DeliveryState = c.index_mut.result.now in
    let kept_there : slice_get core.deliveries.items sent.receiver ≡ Some kept = slice_get_read core.deliveries.items (length core.deliveries.items) sent.receiver kept refl below c.index_mut.ensures.value in
    let left = record core { seats = with_item core.seats c.args.worker c.settle.new.self; deliveries = with_item core.deliveries sent.receiver c.offer.new.self; spent = false } in
    offered c.args.schema.now start receivers workers entries world core is c.args.worker seat there sent out c.nothing_happens_where_an_event_cannot_be_done.ensures.exactly c.every_list_of_events_keeps_what_holds.ensures.step
    c.a_worker_offers_what_its_run_offers.ensures.offers c.in_ok-settled-in-Some.settled c.settle.new.self c.in_ok-settle-in-Some.ensures.position c.in_ok-settle-in-Some.ensures.found kept c.offer.new.self kept_there
    c.in_ok-settled-in-Some.ensures.answer c.in_ok-settled-in-Some.ensures.state c.told.result c.told.ensures left refl refl refl refl refl

pub returns-in-None-clause-stepped : goal.returns-in-None-clause-stepped
returns-in-None-clause-stepped c = λ start receivers workers entries world is.
    let core = c.args.self.now in
    let seat = c.index_mut-seat.result.now in
    let there : slice_get core.seats.items c.args.worker ≡ Some seat = slice_get_read core.seats.items c.len.result c.args.worker seat (omega (arith, c.len.ensures, core.seats.ok.0)) c.if-number-len.false c.index_mut-seat.ensures.value in
    let none : seat.sent ≡ None = sym c.take.ensures.value ∙ c.in-None.is in
    let left = record core { seats = with_item core.seats c.args.worker (record seat { sent = c.take.new.self }); spent = false } in
    offered_nothing c.args.schema.now start receivers workers entries world core is c.args.worker seat there c.nothing_happens_where_an_event_cannot_be_done.ensures.changes c.a_worker_offers_what_its_run_offers.ensures.idle none left
    (λ i. slice_set core.seats.items c.args.worker (record seat { sent = c.take.ensures.after i })) refl refl refl refl
