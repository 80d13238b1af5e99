use Rattle.yp_touch.proofs.Windowed.{record_mirrors, window_empty}
use Rattle.yp_touch.proofs.laws.a_record_leads_from_the_first_to_the_last.Goals as goal

pub returns-clause-leads : goal.returns-clause-leads
returns-clause-leads c = record_mirrors

pub returns-clause-empty : goal.returns-clause-empty
returns-clause-empty c = window_empty
