use Rattle.yp_worker.proofs.worker.Worker.look.Goals as goal

pub returns-clause-followed : goal.returns-clause-followed
returns-clause-followed g c = λ start receivers mine entries answers stands.
    let f = stands.followed in
    record { schema = f.schema; legal = f.legal; begun = f.begun; served = f.served; state = f.state; sound = f.sound; rules = f.rules; former = f.former; classed = c.in_ok-offer.ensures.classed; contents = f.contents }
