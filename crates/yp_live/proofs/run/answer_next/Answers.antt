use Rattle.std.proofs.Common.{◌≡◌, ◌∙◌, ◌<◌, ap, length, slice_set, List, arith}
use Rattle.yp_attempt.specs.Attempts.{answers_in}
use Rattle.yp_worker.specs.Workers.{HasOffered}
use Rattle.yp_promise.specs.Serving.{all_numbers}
use Rattle.yp_live.specs.Desks.{DeskState, desk_answer, desk_offered}
use Rattle.yp_live.proofs.Desks.{desks_length}
use Rattle.yp_live.proofs.Running.{IsOffered, answered, at_position, ended, found_none, found_offer, offered}
use Rattle.yp_live.proofs.run.answer_next.Goals as goal

pub index_mut-requires : goal.index_mut-requires
index_mut-requires c =
    let w = c.requires in
    let nodes = c.args.schema.now in
    let sent = c.in-Some.sent in
    let worker = c.next_offer.new.self in
    let has : HasOffered nodes w.start w.receivers (all_numbers w.receivers) w.entries (answers_in w.served.run.done) sent worker =
    found_offer nodes w.start w.receivers w.entries (answers_in w.served.run.done) c.in_ok-sent.field-0 sent worker c.in-Some.is (c.in_ok-sent.ensures.found w.start w.receivers (all_numbers w.receivers) w.entries (answers_in w.served.run.done) w.is.stands) in
    let is : IsOffered nodes w.start w.receivers w.served sent =
    offered c.the_first_offer_is_found.ensures c.a_worker_offers_what_its_run_offers.ensures.offers nodes w.start w.receivers w.entries w.served sent worker w.is.serving has in
    let below : sent.receiver < length w.receivers = is.below in
    let count : length c.args.run.now.desks.items ≡ length w.receivers = ap (λ (desks : List DeskState). length desks) w.is.are ∙ desks_length nodes w.start w.served 0 w.receivers in
    omega (arith, below, count)

pub settle-requires : goal.settle-requires
settle-requires c =
    let w = c.requires in
    let nodes = c.args.schema.now in
    let has : HasOffered nodes w.start w.receivers (all_numbers w.receivers) w.entries (answers_in w.served.run.done) c.in-Some.sent c.next_offer.new.self =
    found_offer nodes w.start w.receivers w.entries (answers_in w.served.run.done) c.in_ok-sent.field-0 c.in-Some.sent c.next_offer.new.self c.in-Some.is (c.in_ok-sent.ensures.found w.start w.receivers (all_numbers w.receivers) w.entries (answers_in w.served.run.done) w.is.stands) in
    (nodes, record { start = w.start; receivers = w.receivers; mine = all_numbers w.receivers; entries = w.entries; answers = answers_in w.served.run.done; sent = c.in-Some.sent; offered = has })

pub returns-in_ok-settled-in-Some-clause-goes : goal.returns-in_ok-settled-in-Some-clause-goes
returns-in_ok-settled-in-Some-clause-goes c = λ start receivers entries served way.
    let nodes = c.args.schema.now in
    let sent = c.in-Some.sent in
    let worker = c.next_offer.new.self in
    let mine = all_numbers receivers in
    let answers = answers_in served.run.done in
    let at = c.position-at.result in
    let desks = c.args.run.now.desks.items in
    let has : HasOffered nodes start receivers mine entries answers sent worker =
    found_offer nodes start receivers entries answers c.in_ok-sent.field-0 sent worker c.in-Some.is (c.in_ok-sent.ensures.found start receivers mine entries answers way.stands) in
    let is : IsOffered nodes start receivers served sent =
    offered c.the_first_offer_is_found.ensures c.a_worker_offers_what_its_run_offers.ensures.offers nodes start receivers entries served sent worker way.serving has in
    let here = at_position c.a_journal_goes_on_entry_by_entry.ensures.position nodes receivers entries served c.state.result.now at way.serving (c.state.ensures ∙ has.followed.state) c.position-at.ensures.count in
    let d : DeskState = c.index_mut.result.now in
    answered c.a_serial_run_goes_on_offer_by_offer.ensures.settles c.a_serial_run_goes_on_offer_by_offer.ensures.fewer c.queues_hold_what_was_not_taken.ensures.settles nodes start receivers entries served sent at
    c.in_ok-settled-in-Some.settled d c.args.run.now.worker c.settle.new.self desks (slice_set desks sent.receiver c.offer.new.self) way is here
    (c.in_ok-settled-in-Some.ensures.answer ∙ ap desk_answer c.index_mut.ensures.value)
    (ap (λ (desk : DeskState). slice_set desks sent.receiver desk) (c.in_ok-settled-in-Some.ensures.state ∙ ap (desk_offered sent.packet sent.notice at) c.index_mut.ensures.value))
    (c.settle.ensures.stands nodes start receivers mine entries answers sent has)

pub returns-in-None-clause-goes : goal.returns-in-None-clause-goes
returns-in-None-clause-goes c = λ start receivers entries served way.
    let nodes = c.args.schema.now in
    ended c.a_worker_offers_what_its_run_offers.ensures.idle c.a_serial_run_goes_on_offer_by_offer.ensures.ends nodes start receivers entries served c.next_offer.new.self c.args.run.now.desks.items way.serving
    (found_none nodes start receivers entries (answers_in served.run.done) c.in_ok-sent.field-0 c.next_offer.new.self c.in-None.is (c.in_ok-sent.ensures.found start receivers (all_numbers receivers) entries (answers_in served.run.done) way.stands))
    way.are
