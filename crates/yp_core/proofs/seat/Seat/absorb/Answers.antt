use Rattle.std.proofs.Common.{◌++◌, ◌∷◌, []}
use Rattle.yp_core.proofs.seat.Seat.absorb.Goals as goal

pub next_offer-requires : goal.next_offer-requires
next_offer-requires c =
    let w = c.requires.idle in
    record { start = w.start; receivers = w.receivers; mine = w.mine; entries = w.entries ++ c.args.entry.now ∷ []; answers = w.answers; stands = c.in_ok-absorb.ensures.stands w.start w.receivers w.mine w.entries w.answers w.idle }

pub returns-clause-found : goal.returns-clause-found
returns-clause-found c = λ start receivers mine entries answers is.
    c.in_ok-self.ensures.found start receivers mine (entries ++ c.args.entry.now ∷ []) answers (c.in_ok-absorb.ensures.stands start receivers mine entries answers is)
