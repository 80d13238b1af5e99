use Rattle.std.proofs.Common.{[], ap, refl, sym, subst, ◌∙◌}
use Rattle.yp_feed.specs.Machine.{looked, offer_of}
use Rattle.yp_slot.specs.Records.{IsRecord}
use Rattle.yp_slot.specs.Slots.{record_at}
use Rattle.yp_slot.proofs.Looks.{moves_base, offers_record}
use Rattle.yp_slot.proofs.Quiet.{quiet_counted}
use Rattle.yp_slot.proofs.slot.Slot.offer_changes.Goals as goal

pub returns-in-Some-clause-look : goal.returns-in-Some-clause-look
returns-in-Some-clause-look g c = λ track stands.
    let present = c.args.present.now in
    let laws = c.absorbed_roots_are_those_of_the_window.ensures in
    offers_record present.schema.now present.state.now c.args.self.now track (record { roots = laws.roots; record_is = laws.recorded }) stands
    present.state.now.position c.in-Some.record c.requires.due
    (subst (IsRecord present.schema.now present.state.now.position (record_at present.schema.now present.state.now c.args.self.now)) c.in-Some.is c.in_ok-record.ensures.record_is)

pub returns-in-None-clause-look : goal.returns-in-None-clause-look
returns-in-None-clause-look g c = λ track stands.
    let present = c.args.present.now in
    let slot = c.args.self.now in
    let laws = c.absorbed_roots_are_those_of_the_window.ensures in
    moves_base present.schema.now present.state.now slot track (record { roots = laws.roots; record_is = laws.recorded }) stands
    c.want_offer-item.new.self present.state.now.position c.count-roots.result c.want_offer-item.result c.new.result [] c.requires.due
    (sym (subst (IsRecord present.schema.now present.state.now.position (record_at present.schema.now present.state.now slot)) c.in-None.is c.in_ok-record.ensures.record_is))
    refl
    c.count-roots.ensures
    (c.want_offer-item.ensures.answer ∙ ap (λ stamp. offer_of slot.feed c.count-roots.result 0 stamp) c.stamp-stamp.ensures.value)
    (c.want_offer-item.ensures.state ∙ (λ i. looked slot.feed c.count-roots.result 0 (c.position-n.ensures.count i) (c.stamp-stamp.ensures.value i)))
    c.new.ensures

pub returns-in-None-clause-quiet : goal.returns-in-None-clause-quiet
returns-in-None-clause-quiet g c = λ none.
    let state = c.args.present.now.state.now in
    let slot = c.args.self.now in
    quiet_counted state slot c.want_offer-item.new.self state.position c.count-roots.result c.new.result c.requires.due
    (c.want_offer-item.ensures.state ∙ (λ i. looked slot.feed c.count-roots.result 0 (c.position-n.ensures.count i) (c.stamp-stamp.ensures.value i)))
    c.new.ensures
