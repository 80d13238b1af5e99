use Rattle.yp_kept.specs.SelectionLaws.{selection_is}
use Rattle.yp_select.proofs.laws.selection_is_a_datastore.Goals as goal

pub returns : goal.returns
returns c = selection_is
