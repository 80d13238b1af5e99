use Rattle.yp_report.proofs.Told.{log_told}
use Rattle.yp_report.proofs.laws.the_lines_of_a_log_are_those_of_what_is_shown.Goals as goal

pub returns : goal.returns
returns c = log_told
