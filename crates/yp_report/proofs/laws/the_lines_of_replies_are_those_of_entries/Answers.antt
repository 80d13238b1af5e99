use Rattle.yp_report.proofs.Told.{replies_told}
use Rattle.yp_report.proofs.laws.the_lines_of_replies_are_those_of_entries.Goals as goal

pub returns : goal.returns
returns c = replies_told
