use Rattle.yp_attempt.specs.Tracks.{freeze_tried}
use Rattle.yp_moment.specs.Windows.{recorded}
use Rattle.yp_slot.specs.ResultLaws.{when_is_ok}
use Rattle.yp_slot.proofs.slot.Slot.look.Goals as goal

pub returns-clause-look : goal.returns-clause-look
returns-clause-look g c = when_is_ok c.offer.result c.offer.ensures.look (λ found is. λ track stands.
    let state = c.args.present.now.state.now in
    is (freeze_tried recorded state.position state.stamp track) (c.in_ok-freeze.ensures.slot track stands))
