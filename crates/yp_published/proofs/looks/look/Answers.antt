use Rattle.yp_published.proofs.Views.{begins_self, turns}
use Rattle.yp_published.proofs.looks.look.Goals as goal

pub enter_as-requires : goal.enter_as-requires
enter_as-requires g c x = turns _ _ x x (begins_self x)
