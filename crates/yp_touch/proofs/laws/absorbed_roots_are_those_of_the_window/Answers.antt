use Rattle.yp_touch.proofs.Absorbing.{absorbs, records, absorbed_last}
use Rattle.yp_touch.proofs.laws.absorbed_roots_are_those_of_the_window.Goals as goal

pub returns-clause-roots : goal.returns-clause-roots
returns-clause-roots c = absorbs

pub returns-clause-recorded : goal.returns-clause-recorded
returns-clause-recorded c = records

pub returns-clause-last : goal.returns-clause-last
returns-clause-last c = absorbed_last
