use Rattle.yp_touch.proofs.Windowed.{window_conceals}
use Rattle.yp_touch.proofs.laws.a_window_conceals.Goals as goal

pub returns : goal.returns
returns c readable excluded first later = window_conceals excluded first later readable
