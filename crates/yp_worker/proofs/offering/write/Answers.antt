use Rattle.std.proofs.Common.{◌∙◌, ap, sym, ℕ, arith}
use Rattle.yp_feed.specs.Machine.{FeedState}
use Rattle.yp_journal.specs.History.{JournalState}
use Rattle.yp_attempt.specs.Tracks.{Made, item_made}
use Rattle.yp_moment.specs.Notices.{notice_of}
use Rattle.yp_moment.specs.Windows.{recorded}
use Rattle.yp_worker.specs.declared.saying.Said.{Said}
use Rattle.yp_worker.specs.Packets.{packet_of, said_of}
use Rattle.yp_worker.proofs.Places.{place_there, slot_at}
use Rattle.yp_worker.proofs.Said.{packet_said}
use Rattle.yp_worker.proofs.offering.write.Goals as goal

pub index-slot-requires : goal.index-slot-requires
index-slot-requires g c =
    let present = c.args.present.now in
    let found = c.requires.found.1.1.1 in
    let slots = c.args.roster.now.slots in
    let there = place_there present.schema.now present.state.now slots.items found.before found.track found.after found.kept in
    omega (arith, there, found.place, slots.ok.0)

pub say-requires-clause-offer : goal.say-requires-clause-offer
say-requires-clause-offer g c =
    let present = c.args.present.now in
    let found = c.requires.found.1.1.1 in
    (found.track, slot_at present.schema.now present.state.now found.before c.args.offer.place c.args.roster.now.slots.items found.track found.after c.index-slot.result.now found.place found.kept c.index-slot.ensures, found.made)

pub returns-clause-to : goal.returns-clause-to
returns-clause-to g c = λ mine past answers found.
    let present = c.args.present.now in
    let stands = slot_at present.schema.now present.state.now found.before c.args.offer.place c.args.roster.now.slots.items found.track found.after c.index-slot.result.now found.place found.kept c.index-slot.ensures in
    c.receiver.ensures ∙ ap (λ (f : FeedState). f.receiver) stands.feed

pub returns-clause-packet : goal.returns-clause-packet
returns-clause-packet g c = λ mine past answers found.
    let nodes = c.args.present.now.schema.now in
    let start = c.args.start.now in
    let state : JournalState = c.args.present.now.state.now in
    let stands = slot_at nodes state found.before c.args.offer.place c.args.roster.now.slots.items found.track found.after c.index-slot.result.now found.place found.kept c.index-slot.ensures in
    let made : Made = item_made recorded found.track c.args.offer.item state.position state.stamp in
    packet_said nodes start c.sub.result made c.in_ok-worded.worded.said c.in_ok-line.line
    (c.in_ok-worded.ensures.said found.track stands found.made ∙ ap (λ (sub : ℕ). said_of sub made) (sym c.sub.ensures)) c.in_ok-line.ensures
    ∙ ap (λ (sub : ℕ). packet_of nodes start sub made) (c.sub.ensures ∙ ap (λ (f : FeedState). f.sub) stands.feed)

pub returns-clause-notice : goal.returns-clause-notice
returns-clause-notice g c = λ mine past answers found.
    let nodes = c.args.present.now.schema.now in
    let state : JournalState = c.args.present.now.state.now in
    let stands = slot_at nodes state found.before c.args.offer.place c.args.roster.now.slots.items found.track found.after c.index-slot.result.now found.place found.kept c.index-slot.ensures in
    let made : Made = item_made recorded found.track c.args.offer.item state.position state.stamp in
    ap (λ (s : Said). s.notice) (c.in_ok-worded.ensures.said found.track stands found.made) ∙ ap (λ (f : FeedState). notice_of f.sub made) stands.feed
