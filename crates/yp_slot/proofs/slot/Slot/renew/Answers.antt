use Rattle.std.proofs.Common.{not, refl, sym, subst}
use Rattle.yp_feed.specs.declared.item.Control.TheVariants.{Rules}
use Rattle.yp_feed.specs.Machine.{controlled, resyncs}
use Rattle.yp_attempt.specs.Moments.{with_control}
use Rattle.yp_slot.specs.declared.slot.Slot.{Slot}
use Rattle.yp_slot.specs.Slots.{IsSlotOf}
use Rattle.yp_slot.specs.Steps.{with_next}
use Rattle.yp_slot.proofs.Entering.{renews}
use Rattle.yp_slot.proofs.Going.{rules_continue}
use Rattle.yp_slot.proofs.slot.Slot.renew.Goals as goal

pub returns : goal.returns
returns c = λ nodes before after comes track stands.
    let slot = c.args.self.now in
    let f = controlled slot.feed Rules c.args.n c.args.stamp in
    subst (λ (new : Slot). IsSlotOf nodes after new (with_control c.args.n c.args.stamp Rules (with_next nodes after track))) (sym c.control.ensures)
    (renews nodes before after slot track comes.receivers (comes.stays slot.feed.sub) stands Rules f c.args.n c.args.stamp (not (resyncs f.trigger)) (rules_continue track.feed c.args.n c.args.stamp) refl refl)
