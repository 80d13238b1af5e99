use Rattle.yp_serial.proofs.Queues.{run_parts, run_fits}
use Rattle.yp_serial.proofs.laws.queues_hold_what_was_not_taken.Goals as goal

pub returns-clause-parts : goal.returns-clause-parts
returns-clause-parts c = run_parts

pub returns-clause-fits : goal.returns-clause-fits
returns-clause-fits c = run_fits
