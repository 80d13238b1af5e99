use Rattle.yp_touch.proofs.Windowed.{whole_top, whole_below}
use Rattle.yp_touch.proofs.laws.a_datastore_is_whole.Goals as goal

pub returns-clause-top : goal.returns-clause-top
returns-clause-top c = whole_top

pub returns-clause-below : goal.returns-clause-below
returns-clause-below c = whole_below
