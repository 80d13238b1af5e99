use Rattle.yp_touch.specs.RecordLaws.{record_leads, selections_lead, no_record}
use Rattle.yp_touch.proofs.laws.the_record_leads.Goals as goal

pub returns-clause-datastores : goal.returns-clause-datastores
returns-clause-datastores c nodes before after schema old new = record_leads nodes schema before after old new

pub returns-clause-leads : goal.returns-clause-leads
returns-clause-leads c = selections_lead

pub returns-clause-none : goal.returns-clause-none
returns-clause-none c = no_record
