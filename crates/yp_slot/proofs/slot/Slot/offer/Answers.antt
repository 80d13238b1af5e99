use Rattle.std.proofs.Common.{◌≡◌, Bool, ap, subst, ◌∙◌}
use Rattle.std.specs.Prelude.{if◌then◌else◌, IfOk}
use Rattle.yp_feed.specs.Machine.{FeedState, looked, offer_of}
use Rattle.yp_attempt.specs.Tracks.{rebased}
use Rattle.yp_moment.specs.Windows.{recorded}
use Rattle.yp_slot.specs.Slots.{IsLook}
use Rattle.yp_slot.proofs.Looks.{offers_other}
use Rattle.yp_slot.proofs.Numbers.{stays_with_one}
use Rattle.yp_slot.proofs.Quiet.{quiet_other}
use Rattle.yp_slot.proofs.slot.Slot.offer.Goals as goal

pub returns-clause-look : goal.returns-clause-look
returns-clause-look g c = λ track stands.
    let present = c.args.present.now in
    let slot = c.args.self.now in
    let laws = c.absorbed_roots_are_those_of_the_window.ensures in
    offers_other present.schema.now present.state.now slot track (record { roots = laws.roots; record_is = laws.recorded }) stands
    c.want_offer-item.new.self present.state.now.position c.count-roots.result c.want_offer-item.result
    c.count-roots.ensures
    (c.want_offer-item.ensures.answer ∙ ap (λ stamp. offer_of slot.feed c.count-roots.result 1 stamp) c.stamp-stamp.ensures.value)
    (c.are_changes.ensures.no c.if-are_changes.false)
    (c.want_offer-item.ensures.state ∙ (λ i. looked slot.feed c.count-roots.result 1 (c.position-n.ensures.count i) (c.stamp-stamp.ensures.value i)))

pub returns-clause-quiet : goal.returns-clause-quiet
returns-clause-quiet g c = λ none.
    let state = c.args.present.now.state.now in
    let slot = c.args.self.now in
    quiet_other state slot c.want_offer-item.new.self state.position c.count-roots.result c.want_offer-item.result c.requires.thawed c.count-roots.ensures
    (c.want_offer-item.ensures.answer ∙ ap (λ stamp. offer_of slot.feed c.count-roots.result 1 stamp) c.stamp-stamp.ensures.value)
    (c.want_offer-item.ensures.state ∙ (λ i. looked slot.feed c.count-roots.result 1 (c.position-n.ensures.count i) (c.stamp-stamp.ensures.value i)))
    none

pub returns-then-are_changes-clause-look : goal.returns-then-are_changes-clause-look
returns-then-are_changes-clause-look g c =
    let present = c.args.present.now in
    let state = present.state.now in
    let slot = c.args.self.now in
    let back : c.want_offer-item.new.self ≡ slot.feed =
    c.want_offer-item.ensures.state ∙ ap (λ (b : Bool). record slot.feed { base = if b then c.position-n.result else slot.feed.base }) (stays_with_one slot.feed c.count-roots.result c.stamp-stamp.result) in
    subst (λ (f : FeedState). IfOk c.offer_changes.result (λ found. IsLook present.schema.now state (rebased recorded state.position state.stamp) (record slot { feed = f }) c.offer_changes.new.self found)) back c.offer_changes.ensures.look
