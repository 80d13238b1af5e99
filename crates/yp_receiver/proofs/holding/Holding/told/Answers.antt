use Rattle.std.proofs.Common.{refl}
use Rattle.yp_receiver.proofs.holding.Holding.told.Goals as goal

pub returns : goal.returns
returns c = refl
