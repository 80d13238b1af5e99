use Rattle.std.proofs.Common.{◌≡◌, ◌∙◌, ◌+◌, false, Some, None, refl, sym, ap, subst, length, arith}
use Rattle.std.specs.List.{slice_get}
use Rattle.std.specs.Vec.{with_item}
use Rattle.std.proofs.lemmas.Option.{slice_get_read}
use Rattle.yp_promise.specs.Interleaving.{world_after}
use Rattle.yp_core.specs.declared.event.Event.TheVariants as events
use Rattle.yp_core.specs.declared.event.Happened.TheVariants as told
use Rattle.yp_core.specs.declared.seat.Seat.{Seat}
use Rattle.yp_core.specs.Worlds.{HasStepped}
use Rattle.yp_core.proofs.Absorbed.{IsCalled, absorbed, absorbed_at_end, absorbed_while_offering, called, entry_follows, idle_there, state_position}
use Rattle.yp_core.proofs.Worlds.{there_is, there_is_none}
use Rattle.yp_core.proofs.world.World.absorb.Goals as goal

pub returns-then-is_some-clause-stepped : goal.returns-then-is_some-clause-stepped
returns-then-is_some-clause-stepped c = λ start receivers workers entries world is.
    let core = c.args.self.now in
    let seat = c.index-seat.result.now in
    let there : slice_get core.seats.items c.args.worker ≡ Some seat = slice_get_read core.seats.items c.len.result c.args.worker seat (omega (arith, c.len.ensures, core.seats.ok.0)) c.if-number-len.false c.index-seat.ensures in
    let out = there_is seat.sent (sym c.is_some.ensures ∙ c.if-is_some.true) in
    absorbed_while_offering c.args.schema.now start receivers workers entries world core is c.args.worker seat there c.nothing_happens_where_an_event_cannot_be_done.ensures.changes c.a_worker_offers_what_its_run_offers.ensures.offers out.0 out.1

pub returns-then-position-len-clause-stepped : goal.returns-then-position-len-clause-stepped
returns-then-position-len-clause-stepped c = λ start receivers workers entries world is.
    let core = c.args.self.now in
    let seat = c.index-seat.result.now in
    let there : slice_get core.seats.items c.args.worker ≡ Some seat = slice_get_read core.seats.items c.len.result c.args.worker seat (omega (arith, c.len.ensures, core.seats.ok.0)) c.if-number-len.false c.index-seat.ensures in
    let none : seat.sent ≡ None = there_is_none seat.sent (sym c.is_some.ensures ∙ c.if-is_some.false) in
    let kept : length core.entries.items ≡ length entries = ap length is.kept in
    absorbed_at_end c.args.schema.now start receivers workers entries world core is c.args.worker seat there c.nothing_happens_where_an_event_cannot_be_done.ensures.changes c.a_worker_offers_what_its_run_offers.ensures.idle none
    (omega (arith, c.len-2.ensures, core.entries.ok.0, kept, c.if-position-len.true))

pub absorb-requires-clause-entry : goal.absorb-requires-clause-entry
absorb-requires-clause-entry c =
    let w = c.requires in
    let core = c.args.self.now in
    let seat = c.index_mut.result.now in
    let entry = c.index.result.now in
    let k : IsCalled core c.args.worker c.index-seat.result.now seat entry =
    called core c.args.worker c.index-seat.result.now seat entry c.len.result c.len-2.result (omega (arith, c.len.ensures, core.seats.ok.0)) c.if-number-len.false c.index-seat.ensures c.index_mut.ensures.value (sym c.is_some.ensures ∙ c.if-is_some.false)
    (omega (arith, c.len-2.ensures, core.entries.ok.0)) c.if-position-len.false c.index.ensures in
    entry_follows c.args.schema.now w.start w.receivers w.workers w.entries (world_after w.receivers w.workers w.events) core w.is c.args.worker seat k.there entry k.next c.each_entry_of_a_legal_journal_may_follow.ensures k.none

pub absorb-requires-clause-position : goal.absorb-requires-clause-position
absorb-requires-clause-position c =
    let w = c.requires in
    let core = c.args.self.now in
    let seat = c.index_mut.result.now in
    let entry = c.index.result.now in
    let k : IsCalled core c.args.worker c.index-seat.result.now seat entry =
    called core c.args.worker c.index-seat.result.now seat entry c.len.result c.len-2.result (omega (arith, c.len.ensures, core.seats.ok.0)) c.if-number-len.false c.index-seat.ensures c.index_mut.ensures.value (sym c.is_some.ensures ∙ c.if-is_some.false)
    (omega (arith, c.len-2.ensures, core.entries.ok.0)) c.if-position-len.false c.index.ensures in
    state_position c.args.schema.now w.start w.receivers w.workers w.entries (world_after w.receivers w.workers w.events) core w.is c.args.worker seat k.there c.a_journal_goes_on_entry_by_entry.ensures.position k.none

pub absorb-requires-clause-idle : goal.absorb-requires-clause-idle
absorb-requires-clause-idle c =
    let w = c.requires in
    let core = c.args.self.now in
    let seat = c.index_mut.result.now in
    let entry = c.index.result.now in
    let k : IsCalled core c.args.worker c.index-seat.result.now seat entry =
    called core c.args.worker c.index-seat.result.now seat entry c.len.result c.len-2.result (omega (arith, c.len.ensures, core.seats.ok.0)) c.if-number-len.false c.index-seat.ensures c.index_mut.ensures.value (sym c.is_some.ensures ∙ c.if-is_some.false)
    (omega (arith, c.len-2.ensures, core.entries.ok.0)) c.if-position-len.false c.index.ensures in
    idle_there c.args.schema.now w.start w.receivers w.workers w.entries (world_after w.receivers w.workers w.events) core w.is c.args.worker seat k.there k.none

pub returns-clause-stepped : goal.returns-clause-stepped
returns-clause-stepped c = λ start receivers workers entries world is.
    let core = c.args.self.now in
    let seat = c.index_mut.result.now in
    let entry = c.index.result.now in
    let k : IsCalled core c.args.worker c.index-seat.result.now seat entry =
    called core c.args.worker c.index-seat.result.now seat entry c.len.result c.len-2.result (omega (arith, c.len.ensures, core.seats.ok.0)) c.if-number-len.false c.index-seat.ensures c.index_mut.ensures.value (sym c.is_some.ensures ∙ c.if-is_some.false)
    (omega (arith, c.len-2.ensures, core.entries.ok.0)) c.if-position-len.false c.index.ensures in
    let left = record core { seats = with_item core.seats c.args.worker c.absorb.new.self; spent = false } in
    subst (λ (s : Seat). HasStepped c.args.schema.now start receivers workers entries world (events.Absorb c.args.worker) (told.Absorbed (s.position + 1)) left) (sym k.same)
    (absorbed c.args.schema.now start receivers workers entries world core is c.args.worker seat k.there entry k.next c.every_list_of_events_keeps_what_holds.ensures.step c.a_worker_offers_what_its_run_offers.ensures.idle
    c.one_entry_more_is_one_moment_more.ensures k.none c.absorb.new.self c.in_ok-absorb.ensures.position c.in_ok-absorb.ensures.found left refl refl refl refl refl)
