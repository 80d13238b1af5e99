use Rattle.std.proofs.Common.{◌∙◌, ◌++◌, List, ap, subst}
use Rattle.yp_attempt.specs.Attempts.{answers_in}
use Rattle.yp_worker.specs.Workers.{HasOffered}
use Rattle.yp_followers.specs.declared.outbox.Outbox.{Outbox}
use Rattle.yp_followers.specs.Followers.{IsOffered, IsOnlyAt, IsSameOutbox}
use Rattle.yp_followers.proofs.Following.{answered, found_none, found_offer, nothing_left}
use Rattle.yp_followers.proofs.Outboxes.{same_boxes, same_but_one}
use Rattle.yp_followers.proofs.follower.answer_next.Goals as goal

pub next_offer-requires : goal.next_offer-requires
next_offer-requires g c =
    let w = c.requires in
    record { start = w.start; receivers = w.receivers; mine = w.mine; entries = w.before ++ w.absorbed; answers = answers_in w.is.run.done; stands = w.is.stands }

pub settle-requires : goal.settle-requires
settle-requires g c =
    let w = c.requires in
    let nodes = c.args.schema.now in
    let entries = w.before ++ w.absorbed in
    let answers = answers_in w.is.run.done in (
      nodes,
      record {
        start = w.start;
        receivers = w.receivers;
        mine = w.mine;
        entries = entries;
        answers = answers;
        sent = c.in-Some.sent;
        offered = found_offer nodes w.start w.receivers w.mine entries answers c.in_ok-sent.field-0 c.in-Some.sent c.next_offer.new.self c.in-Some.is (c.in_ok-sent.ensures.found w.start w.receivers w.mine entries answers w.is.stands);
      },
    )

pub returns-in_ok-settled-in-Some-clause-goes : goal.returns-in_ok-settled-in-Some-clause-goes
returns-in_ok-settled-in-Some-clause-goes g c = λ start receivers mine before absorbed opened f.
    let nodes = c.args.schema.now in
    let entries = before ++ absorbed in
    let answers = answers_in f.run.done in
    let sent = c.in-Some.sent in
    let boxes = c.args.outboxes.now.items in
    let place = c.in-Some-place_of.place in
    let at = c.position-at.result in
    let settled = c.in_ok-settled-in-Some.settled in
    let after = c.offer.new.self in
    let has : HasOffered nodes start receivers mine entries answers sent c.next_offer.new.self =
    found_offer nodes start receivers mine entries answers c.in_ok-sent.field-0 sent c.next_offer.new.self c.in-Some.is (c.in_ok-sent.ensures.found start receivers mine entries answers f.stands) in
    answered nodes start receivers mine before absorbed opened c.a_worker_offers_what_its_run_offers.ensures.offers c.a_journal_goes_on_entry_by_entry.ensures.position
    c.args.worker.now c.next_offer.new.self c.settle.new.self boxes sent at place settled after c.index_mut.result.now f has
    (c.position-at.ensures.count ∙ ap (λ state. state.position) c.state.ensures)
    (subst (λ (those : List Outbox). IsOnlyAt sent.receiver those place) c.as_slice.ensures.value c.in-Some-place_of.ensures)
    (subst (λ (box : Outbox). IsOffered box sent.packet at settled after) c.index_mut.ensures.value c.in_ok-settled-in-Some.ensures.offered)
    (c.settle.ensures.stands nodes start receivers mine entries answers sent has)

pub returns-in-None-clause-goes : goal.returns-in-None-clause-goes
returns-in-None-clause-goes g c = λ start receivers mine before absorbed opened f.
    let nodes = c.args.schema.now in
    let entries = before ++ absorbed in
    let answers = answers_in f.run.done in
    nothing_left nodes start receivers mine before absorbed opened c.args.worker.now c.next_offer.new.self c.args.outboxes.now.items f
    (found_none nodes start receivers mine entries answers c.in_ok-sent.field-0 c.next_offer.new.self c.in-None.is (c.in_ok-sent.ensures.found start receivers mine entries answers f.stands))

pub returns-in_err-sent-clause-same : goal.returns-in_err-sent-clause-same
returns-in_err-sent-clause-same g c = same_boxes c.args.outboxes.now.items

pub returns-in-None-place_of-clause-same : goal.returns-in-None-place_of-clause-same
returns-in-None-place_of-clause-same g c = same_boxes c.args.outboxes.now.items

pub returns-in-None-clause-same : goal.returns-in-None-clause-same
returns-in-None-clause-same g c = same_boxes c.args.outboxes.now.items

pub returns-in_err-settled-in-Some-clause-same : goal.returns-in_err-settled-in-Some-clause-same
returns-in_err-settled-in-Some-clause-same g c =
    let boxes = c.args.outboxes.now.items in
    let place = c.in-Some-place_of.place in
    let after = c.offer.new.self in
    let only : IsOnlyAt c.in-Some.sent.receiver boxes place = subst (λ (those : List Outbox). IsOnlyAt c.in-Some.sent.receiver those place) c.as_slice.ensures.value c.in-Some-place_of.ensures in
    same_but_one boxes place after c.index_mut.result.now only.within (subst (λ (box : Outbox). IsSameOutbox box after) c.index_mut.ensures.value c.offer.ensures.same)

pub returns-in_ok-settled-in-Some-clause-same : goal.returns-in_ok-settled-in-Some-clause-same
returns-in_ok-settled-in-Some-clause-same g c =
    let boxes = c.args.outboxes.now.items in
    let place = c.in-Some-place_of.place in
    let after = c.offer.new.self in
    let only : IsOnlyAt c.in-Some.sent.receiver boxes place = subst (λ (those : List Outbox). IsOnlyAt c.in-Some.sent.receiver those place) c.as_slice.ensures.value c.in-Some-place_of.ensures in
    same_but_one boxes place after c.index_mut.result.now only.within (subst (λ (box : Outbox). IsSameOutbox box after) c.index_mut.ensures.value c.offer.ensures.same)
