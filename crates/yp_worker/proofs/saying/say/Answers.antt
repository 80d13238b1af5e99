use Rattle.std.proofs.Common.{◌≡◌, ◌∙◌, ap, sym, List, Option, Some}
use Rattle.yp_base.specs.declared.notice.Change.{Change}
use Rattle.yp_feed.specs.declared.item.Item.{Item}
use Rattle.yp_journal.specs.History.{JournalState}
use Rattle.yp_attempt.specs.Tracks.{Edits, Frozen, item_made, made_frozen, record_in}
use Rattle.yp_moment.specs.Windows.{recorded}
use Rattle.yp_slot.specs.Slots.{edits_of, frozen_of}
use Rattle.yp_worker.specs.Packets.{said_of}
use Rattle.yp_worker.proofs.Places.{same_some}
use Rattle.yp_worker.proofs.Said.{when_has}
use Rattle.yp_worker.proofs.saying.say.Goals as goal

pub returns-in-Some-clause-said : goal.returns-in-Some-clause-said
returns-in-Some-clause-said g c = λ track stands offers.
    let state : JournalState = c.args.present.now.state.now in
    let sub = c.args.slot.now.feed.sub in
    let same : c.in-Some.told.changes ≡ record_in recorded track = same_some (edits_of c.args.changes) c.in-Some.told.changes (record_in recorded track) (ap edits_of c.in-Some.is) (offers.changes (ap Some c.in-Changes.is)) in
    c.say_changes.ensures.said track.feed.base
    ∙ ap (λ (edits : List Change). said_of sub (record { from = track.feed.base; position = state.position; tick = state.stamp; body = Edits edits })) same
    ∙ ap (λ (item : Item). said_of sub (item_made recorded track item state.position state.stamp)) (sym c.in-Changes.is)

pub returns-in-Some-frozen-clause-said : goal.returns-in-Some-frozen-clause-said
returns-in-Some-frozen-clause-said g c = when_has c.say_frozen.result c.say_frozen.ensures.said (λ said is. λ track stands offers.
    let state : JournalState = c.args.present.now.state.now in
    let sub = c.args.slot.now.feed.sub in
    is state.position state.stamp
    ∙ ap (λ (frozen : Option Frozen). said_of sub (made_frozen frozen state.position state.stamp)) (ap frozen_of (sym c.in-Some-frozen.is) ∙ stands.frozen)
    ∙ ap (λ (item : Item). said_of sub (item_made recorded track item state.position state.stamp)) (sym c.in-Incomplete.is))
