use Rattle.yp_moment.proofs.Leading.{records_lead}
use Rattle.yp_moment.proofs.laws.records_lead_from_selection_to_selection.Goals as goal

pub returns : goal.returns
returns c nodes receivers entries receiver schema legal =
    records_lead c.a_journal_keeps_a_datastore.ensures.entries nodes receivers entries receiver c.a_record_leads_from_the_first_to_the_last.ensures.leads schema
