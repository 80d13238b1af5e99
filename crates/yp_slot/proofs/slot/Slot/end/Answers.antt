use Rattle.std.proofs.Common.{not, refl, sym, subst}
use Rattle.yp_feed.specs.declared.item.Control.TheVariants.{End}
use Rattle.yp_feed.specs.Machine.{controlled, resyncs}
use Rattle.yp_attempt.specs.Moments.{with_control}
use Rattle.yp_slot.specs.declared.slot.Slot.{Slot}
use Rattle.yp_slot.specs.Slots.{IsSlotOf}
use Rattle.yp_slot.specs.Steps.{with_next}
use Rattle.yp_slot.proofs.Entering.{ends_so}
use Rattle.yp_slot.proofs.slot.Slot.end.Goals as goal

pub returns : goal.returns
returns c = λ nodes before after receivers ended track stands.
    let slot = c.args.self.now in
    let f = controlled slot.feed End c.args.n c.args.stamp in
    subst (λ (new : Slot). IsSlotOf nodes after new (with_control c.args.n c.args.stamp End (with_next nodes after track))) (sym c.control.ensures)
    (ends_so nodes before after slot track f c.args.n c.args.stamp (not (resyncs f.trigger)) receivers stands ended refl)
