use Rattle.std.proofs.Common.{◌≡◌, ◌∙◌, ap, not, refl, sym, subst}
use Rattle.yp_base.specs.declared.notice.Trigger.{Trigger}
use Rattle.yp_feed.specs.declared.item.Control.TheVariants.{Modify}
use Rattle.yp_feed.specs.Machine.{controlled, resyncs}
use Rattle.yp_filter.specs.View.{filter_view}
use Rattle.yp_attempt.specs.Moments.{with_control}
use Rattle.yp_slot.specs.declared.slot.Slot.{Slot}
use Rattle.yp_slot.specs.Slots.{IsSlotOf}
use Rattle.yp_slot.specs.Steps.{gone_on, with_next}
use Rattle.yp_slot.proofs.Entering.{amends}
use Rattle.yp_slot.proofs.slot.Slot.amend.Goals as goal

pub returns : goal.returns
returns c = λ nodes before after receivers fits was live_before live_after track stands.
    let slot = c.args.self.now in
    let terms = c.args.terms.now in
    let n = c.args.n in
    let stamp = c.args.stamp in
    let filter = c.in_ok-self.field-0 in
    let f = controlled slot.feed (Modify terms.trigger c.args.told) n stamp in
    let said : filter_view filter ≡ terms.asked = c.in_ok-self.ensures ∙ c.filter.ensures in
    let is : c.control.new.self ≡ gone_on (record slot { feed = f; filter = filter }) (not (resyncs f.trigger)) =
    c.control.ensures ∙ ap (λ (trigger : Trigger). gone_on (record slot { feed = controlled slot.feed (Modify trigger c.args.told) n stamp; filter = filter }) (not (resyncs (controlled slot.feed (Modify trigger c.args.told) n stamp).trigger))) c.trigger-trigger.ensures in
    subst (λ (new : Slot). IsSlotOf nodes after new (with_control n stamp (Modify terms.trigger c.args.told) (with_next nodes after track))) (sym is)
    (amends nodes before after slot track was terms filter f c.args.told n stamp (not (resyncs f.trigger)) receivers stands live_before live_after said fits refl refl)
