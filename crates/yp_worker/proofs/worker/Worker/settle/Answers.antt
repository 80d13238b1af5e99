use Rattle.std.proofs.Common.{◌≡◌, ap, subst, arith}
use Rattle.yp_journal.specs.History.{JournalState}
use Rattle.yp_moment.specs.Entries.{moments_of}
use Rattle.yp_roster.specs.declared.roster.Offer.{Offer}
use Rattle.yp_roster.specs.Rosters.{IsFoundAt}
use Rattle.yp_worker.specs.declared.worker.Out.{Out}
use Rattle.yp_worker.proofs.Places.{offer_out, place_there, same_some}
use Rattle.yp_worker.proofs.worker.Worker.settle.Goals as goal

pub settle-requires : goal.settle-requires
settle-requires c =
    let worker = c.args.self.now in
    let o = c.requires.1.offered in
    let there = place_there c.requires.0 worker.state worker.roster.slots.items o.found.before o.found.track o.found.after o.found.kept in
    let place : c.in-Some.out.place ≡ o.offer.place = ap (λ (x : Out). x.place) (same_some worker.out c.in-Some.out (record { place = o.offer.place; item = o.offer.item }) c.in-Some.is o.out) in
    record { place = omega (arith, there, place, o.found.place) }

pub returns-in-Some-clause-stands : goal.returns-in-Some-clause-stands
returns-in-Some-clause-stands c = λ nodes start receivers mine entries answers sent o.
    let worker = c.args.self.now in
    let state : JournalState = worker.state in
    let f = o.followed in
    let out = same_some worker.out (record { place = o.offer.place; item = o.offer.item }) c.in-Some.out o.out c.in-Some.is in
    let found = subst (λ (offer : Offer). IsFoundAt nodes state mine (moments_of nodes receivers entries) answers offer worker.roster.slots.items) (offer_out o.offer c.in-Some.out out) o.found in
    record {
      followed = record { schema = f.schema; legal = f.legal; begun = f.begun; served = f.served; state = f.state; sound = f.sound; rules = f.rules; former = f.former; classed = c.settle.ensures.classed nodes f.classed; contents = f.contents };
      stands = c.settle.ensures.stands nodes mine (moments_of nodes receivers entries) answers o.offer.changes found;
    }
