use Rattle.yp_mirror.proofs.Promises.{awaits_incomplete, awaits_eight, awaits_further}
use Rattle.yp_mirror.proofs.laws.a_resynchronisation_is_awaited.Goals as goal

pub returns : goal.returns
returns c = record { incomplete = awaits_incomplete; eight = awaits_eight; until = awaits_further }
