use Rattle.std.proofs.Common.{◌∙◌, ap, refl, subst, true, ℕ, Option}
use Rattle.yp_journal.specs.History.{JournalState}
use Rattle.yp_attempt.specs.Tracks.{item_made}
use Rattle.yp_moment.specs.Entries.{moments_of}
use Rattle.yp_moment.specs.Windows.{recorded}
use Rattle.yp_roster.specs.declared.roster.Offer.{Offer}
use Rattle.yp_roster.specs.Rosters.{IsFoundAt, IsNextAt}
use Rattle.yp_worker.specs.Packets.{packet_of}
use Rattle.yp_worker.proofs.Taken.{unspent}
use Rattle.yp_worker.proofs.worker.Worker.next_offer.Goals as goal

pub write-requires-clause-present : goal.write-requires-clause-present
write-requires-clause-present c =
    let w = c.requires in
    let followed = c.in_ok-offer.ensures.followed w.start w.receivers w.mine w.entries w.answers (unspent c.args.schema.now w.start w.receivers w.mine w.entries w.answers c.args.self.now true w.stands) in
    record { datastore = followed.sound.datastore; own = followed.rules }

pub write-requires-clause-found : goal.write-requires-clause-found
write-requires-clause-found c =
    let w = c.requires in
    let nodes = c.args.schema.now in
    let next = c.in_ok-offer.ensures.next w.start w.receivers w.mine w.entries w.answers (unspent c.args.schema.now w.start w.receivers w.mine w.entries w.answers c.args.self.now true w.stands) in
    let found = subst (λ (o : Option Offer). IsNextAt nodes c.look.new.self.state w.mine (moments_of nodes w.receivers w.entries) w.answers o c.look.new.self.roster.slots.items) c.in-Some.is next in
    (w.mine, (moments_of nodes w.receivers w.entries, (w.answers, found)))

pub write-requires-clause-contents : goal.write-requires-clause-contents
write-requires-clause-contents c =
    let w = c.requires in
    let followed = c.in_ok-offer.ensures.followed w.start w.receivers w.mine w.entries w.answers (unspent c.args.schema.now w.start w.receivers w.mine w.entries w.answers c.args.self.now true w.stands) in
    followed.contents

pub returns-in_ok-sent-in-Some-clause-found : goal.returns-in_ok-sent-in-Some-clause-found
returns-in_ok-sent-in-Some-clause-found c = λ start receivers mine entries answers stands.
    let nodes = c.args.schema.now in
    let worker = c.look.new.self in
    let state : JournalState = worker.state in
    let past = moments_of nodes receivers entries in
    let f = c.in_ok-offer.ensures.followed start receivers mine entries answers (unspent nodes start receivers mine entries answers c.args.self.now true stands) in
    let next = c.in_ok-offer.ensures.next start receivers mine entries answers (unspent nodes start receivers mine entries answers c.args.self.now true stands) in
    let found : IsFoundAt nodes state mine past answers c.in-Some.offer worker.roster.slots.items = subst (λ (o : Option Offer). IsNextAt nodes state mine past answers o worker.roster.slots.items) c.in-Some.is next in
    let sent = c.in_ok-sent-in-Some.ensures in
    record {
      followed = record { schema = f.schema; legal = f.legal; begun = f.begun; served = f.served; state = f.state; sound = f.sound; rules = f.rules; former = f.former; classed = f.classed; contents = sent.contents };
      offer = c.in-Some.offer;
      found = found;
      out = refl;
      to = sent.to mine past answers found;
      made = sent.packet mine past answers found
          ∙ ap (λ (start : ℕ). packet_of nodes start found.track.feed.sub (item_made recorded found.track c.in-Some.offer.item state.position state.stamp)) f.begun;
      notice = sent.notice mine past answers found;
    }

pub returns-in-None-clause-found : goal.returns-in-None-clause-found
returns-in-None-clause-found c = λ start receivers mine entries answers stands.
    let nodes = c.args.schema.now in
    let worker = c.look.new.self in
    let f = c.in_ok-offer.ensures.followed start receivers mine entries answers (unspent nodes start receivers mine entries answers c.args.self.now true stands) in
    let next = c.in_ok-offer.ensures.next start receivers mine entries answers (unspent nodes start receivers mine entries answers c.args.self.now true stands) in
    record {
      followed = record { schema = f.schema; legal = f.legal; begun = f.begun; served = f.served; state = f.state; sound = f.sound; rules = f.rules; former = f.former; classed = f.classed; contents = f.contents };
      idle = subst (λ (o : Option Offer). IsNextAt nodes worker.state mine (moments_of nodes receivers entries) answers o worker.roster.slots.items) c.in-None.is next;
    }
