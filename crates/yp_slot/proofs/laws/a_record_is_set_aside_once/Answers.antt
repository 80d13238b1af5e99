use Rattle.std.proofs.Common.{◌≡◌, ap, sym, ◌∙◌, true}
use Rattle.yp_feed.specs.Machine.{freezes}
use Rattle.yp_attempt.specs.ListLaws.{by_bool}
use Rattle.yp_attempt.specs.Tracks.{freeze_tried, roots_in}
use Rattle.yp_moment.specs.Windows.{recorded}
use Rattle.yp_slot.proofs.Looks.{tried_as}
use Rattle.yp_slot.proofs.Quiet.{frozen_stays}
use Rattle.yp_slot.proofs.laws.a_record_is_set_aside_once.Goals as goal

pub returns : goal.returns
returns c = λ n stamp t.
    by_bool (freezes t.feed (roots_in recorded t))
    (λ e.
    let here : freeze_tried recorded n stamp t ≡ tried_as n stamp t true = ap (tried_as n stamp t) e in
    ap (freeze_tried recorded n stamp) here ∙ ap (tried_as n stamp (tried_as n stamp t true)) (frozen_stays t.feed (roots_in recorded t)) ∙ sym here)
    (λ e. let here : freeze_tried recorded n stamp t ≡ t = ap (tried_as n stamp t) e in ap (freeze_tried recorded n stamp) here)
