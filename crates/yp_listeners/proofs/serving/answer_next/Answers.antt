use Rattle.yp_attempt.specs.Attempts.{answers_in}
use Rattle.yp_worker.specs.Workers.{HasOffered}
use Rattle.yp_listeners.proofs.Going.{accepted, ended, found_none, found_offer}
use Rattle.yp_listeners.proofs.serving.answer_next.Goals as goal

pub settle-requires : goal.settle-requires
settle-requires c =
    let is = c.requires in
    let nodes = c.args.schema.now in
    let answers = answers_in is.run.done in
    let has : HasOffered nodes is.start is.receivers is.mine is.entries answers c.in-Some.sent c.next_offer.new.self =
    found_offer nodes is.start is.receivers is.mine is.entries answers c.in_ok-sent.field-0 c.in-Some.sent c.next_offer.new.self c.in-Some.is (c.in_ok-sent.ensures.found is.start is.receivers is.mine is.entries answers is.served.stands) in
    (nodes, record { start = is.start; receivers = is.receivers; mine = is.mine; entries = is.entries; answers = answers; sent = c.in-Some.sent; offered = has })

pub returns-in_ok-give-in-Some-clause-goes : goal.returns-in_ok-give-in-Some-clause-goes
returns-in_ok-give-in-Some-clause-goes c = λ start receivers mine entries run served.
    let nodes = c.args.schema.now in
    let sent = c.in-Some.sent in
    let worker = c.next_offer.new.self in
    let answers = answers_in run.done in
    let has : HasOffered nodes start receivers mine entries answers sent worker =
    found_offer nodes start receivers mine entries answers c.in_ok-sent.field-0 sent worker c.in-Some.is (c.in_ok-sent.ensures.found start receivers mine entries answers served.stands) in
    accepted c.offers_come_to_an_end.ensures.fewer c.a_worker_offers_what_its_run_offers.ensures.offers nodes start receivers mine entries run sent c.args.worker.now worker c.settle.new.self
    c.args.listeners.now.items c.give.new.listeners.items served has c.in_ok-give-in-Some.ensures.given (c.settle.ensures.stands nodes start receivers mine entries answers sent has)

pub returns-in-None-clause-goes : goal.returns-in-None-clause-goes
returns-in-None-clause-goes c = λ start receivers mine entries run served.
    let nodes = c.args.schema.now in
    let answers = answers_in run.done in
    ended nodes start receivers mine entries run c.args.worker.now c.next_offer.new.self c.args.listeners.now.items served
    (found_none nodes start receivers mine entries answers c.in_ok-sent.field-0 c.next_offer.new.self c.in-None.is (c.in_ok-sent.ensures.found start receivers mine entries answers served.stands))
