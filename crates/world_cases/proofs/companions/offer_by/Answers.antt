use Rattle.world_cases.proofs.Following.{follows_answer, follows_still, offering}
use Rattle.world_cases.proofs.companions.offer_by.Goals as goal

pub settle-requires : goal.settle-requires
settle-requires c =
    (c.args.schema.now, offering c.args.schema.now c.requires.0 c.args.worker.now c.requires.1 c.in_ok-sent.field-0 c.next_offer.new.self c.in_ok-sent.ensures.found c.in-Some.sent c.in-Some.is)

pub returns-in-Some : goal.returns-in-Some
returns-in-Some c = λ receivers is.
    follows_answer c.args.schema.now receivers c.args.worker.now is c.in_ok-sent.field-0 c.next_offer.new.self c.in_ok-sent.ensures.found c.in-Some.sent c.in-Some.is c.args.settled c.settle.new.self c.settle.ensures.stands

pub returns-in-None : goal.returns-in-None
returns-in-None c = λ receivers is.
    follows_still c.args.schema.now receivers c.args.worker.now is c.in_ok-sent.field-0 c.next_offer.new.self c.in_ok-sent.ensures.found c.in-None.is
