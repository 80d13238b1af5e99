use Rattle.std.proofs.Common.{ap, refl, length, map, []}
use Rattle.yp_moment.specs.Windows.{recorded}
use Rattle.yp_attempt.specs.Attempts.{Replayed}
use Rattle.yp_attempt.specs.Workers.{numbers_of}
use Rattle.yp_worker.proofs.Opened.{opened_idle, opened_stands}
use Rattle.yp_worker.proofs.worker.Worker.open.Goals as goal

pub returns-clause-idle : goal.returns-clause-idle
returns-clause-idle c =
    let receivers = c.args.receivers.now in
    let users = map (λ receiver. receiver.user) receivers in
    let names = map (λ receiver. receiver.name) receivers in
    let mine = numbers_of c.args.worker c.args.workers (length receivers) in
    opened_idle c.args.schema.now c.args.start.now receivers mine _ refl c.in_ok-mine.ensures c.in_ok-state.ensures.opening c.in_ok-readers.ensures refl c.new-2.ensures.items (c.open.ensures.classed c.args.schema.now c.in_ok-state.state)
    (λ run reaches. ap (λ (end : Replayed). end.run) (c.what_is_reached_is_what_replaying_gives.ensures recorded mine [] [] run reaches))
    (c.open.ensures.stands c.args.schema.now receivers mine c.stands.ensures).stands c.stands.ensures
    (c.a_journal_keeps_a_datastore.ensures.opening c.args.schema.now receivers) (c.an_establishment_keeps_a_registry.ensures.first c.args.schema.now users names) (c.ids_rise.ensures.first users names)
    (c.an_opened_worker_stands_for_nothing.ensures recorded mine)

pub returns-clause-stands : goal.returns-clause-stands
returns-clause-stands c =
    let receivers = c.args.receivers.now in
    let users = map (λ receiver. receiver.user) receivers in
    let names = map (λ receiver. receiver.name) receivers in
    let mine = numbers_of c.args.worker c.args.workers (length receivers) in
    opened_stands c.args.schema.now c.args.start.now receivers mine _ refl c.in_ok-mine.ensures c.in_ok-state.ensures.opening c.in_ok-readers.ensures refl c.new-2.ensures.items (c.open.ensures.classed c.args.schema.now c.in_ok-state.state)
    (λ run reaches. ap (λ (end : Replayed). end.run) (c.what_is_reached_is_what_replaying_gives.ensures recorded mine [] [] run reaches))
    (c.open.ensures.stands c.args.schema.now receivers mine c.stands.ensures).stands c.stands.ensures
    (c.a_journal_keeps_a_datastore.ensures.opening c.args.schema.now receivers) (c.an_establishment_keeps_a_registry.ensures.first c.args.schema.now users names) (c.ids_rise.ensures.first users names)
    (c.an_opened_worker_stands_for_nothing.ensures recorded mine)
