use Rattle.yp_touch.proofs.Joining.{no_roots_leave, window_stands}
use Rattle.yp_touch.proofs.laws.a_step_without_roots_leaves_the_roots.Goals as goal

pub returns-clause-leaves : goal.returns-clause-leaves
returns-clause-leaves c = no_roots_leave

pub returns-clause-topmost : goal.returns-clause-topmost
returns-clause-topmost c = window_stands
