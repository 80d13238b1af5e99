use Rattle.std.proofs.Common.{◌++◌, ◌∷◌, []}
use Rattle.yp_slot.specs.Steps.{answer_of}
use Rattle.yp_core.proofs.seat.Seat.settle.Goals as goal

pub next_offer-requires : goal.next_offer-requires
next_offer-requires c =
    let w = c.requires in
    record {
      start = w.start;
      receivers = w.receivers;
      mine = w.mine;
      entries = w.entries;
      answers = w.answers ++ answer_of c.args.settled ∷ [];
      stands = c.settle.ensures.stands c.args.schema.now w.start w.receivers w.mine w.entries w.answers w.sent w.offered;
    }

pub returns-clause-found : goal.returns-clause-found
returns-clause-found c = λ start receivers mine entries answers sent is.
    c.in_ok-self.ensures.found start receivers mine entries (answers ++ answer_of c.args.settled ∷ []) (c.settle.ensures.stands c.args.schema.now start receivers mine entries answers sent is)
