use Rattle.std.proofs.Common.{◌∷◌, ◌++◌, [], false}
use Rattle.yp_worker.proofs.Taken.{taken, unspent}
use Rattle.yp_worker.proofs.worker.Worker.absorb.Goals as goal

pub returns-clause-stands : goal.returns-clause-stands
returns-clause-stands c = λ start receivers mine entries answers idle.
    let nodes = c.args.schema.now in
    let entry = c.args.entry.now in
    unspent nodes start receivers mine (entries ++ entry ∷ []) answers c.take.new.self false
    (c.in_ok-take.ensures.stands start receivers mine entries answers
    (taken nodes start receivers mine entries answers c.args.self.now entry c.in_ok-outcome.outcome.changed c.accept_into.new.state idle c.requires.entry c.in_ok-outcome.ensures.state c.in_ok-outcome.ensures.sound c.in_ok-outcome.ensures.changed))
