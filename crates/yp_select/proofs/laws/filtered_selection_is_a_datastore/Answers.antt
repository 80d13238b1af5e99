use Rattle.yp_kept.specs.KeptLaws.{kept_datastore, selection_of_all}
use Rattle.yp_select.proofs.laws.filtered_selection_is_a_datastore.Goals as goal

pub returns : goal.returns
returns c = record { datastore = kept_datastore; all = selection_of_all }
