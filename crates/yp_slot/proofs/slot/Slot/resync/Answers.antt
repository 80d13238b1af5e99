use Rattle.std.proofs.Common.{◌∙◌, ap, not, refl, sym, subst}
use Rattle.yp_feed.specs.declared.item.Control.TheVariants.{Resync}
use Rattle.yp_feed.specs.Machine.{FeedState, controlled, resyncs}
use Rattle.yp_attempt.specs.Moments.{with_control}
use Rattle.yp_slot.specs.declared.slot.Slot.{Slot}
use Rattle.yp_slot.specs.Slots.{IsSlotOf}
use Rattle.yp_slot.specs.Steps.{with_next}
use Rattle.yp_slot.proofs.Entering.{renews}
use Rattle.yp_slot.proofs.Going.{resync_continues}
use Rattle.yp_slot.proofs.Standing.{live_unended}
use Rattle.yp_slot.proofs.slot.Slot.resync.Goals as goal

pub returns : goal.returns
returns c = λ nodes before after comes terms live track stands.
    let slot = c.args.self.now in
    let f = controlled slot.feed Resync c.args.n c.args.stamp in
    let lives = ap (λ (g : FeedState). g.owed.terminated) (sym stands.feed) ∙ live_unended nodes before slot terms stands.kept.terms live in
    subst (λ (new : Slot). IsSlotOf nodes after new (with_control c.args.n c.args.stamp Resync (with_next nodes after track))) (sym c.control.ensures)
    (renews nodes before after slot track comes.receivers (comes.stays slot.feed.sub) stands Resync f c.args.n c.args.stamp (not (resyncs f.trigger)) (resync_continues track.feed c.args.n c.args.stamp lives) refl refl)
