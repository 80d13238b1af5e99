use Rattle.yp_touch.proofs.Windowed.{absorbed_end, window_end}
use Rattle.yp_touch.proofs.laws.roots_end_as_rows.Goals as goal

pub returns-clause-step : goal.returns-clause-step
returns-clause-step c = absorbed_end

pub returns-clause-window : goal.returns-clause-window
returns-clause-window c = window_end
