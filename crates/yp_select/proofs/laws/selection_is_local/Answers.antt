use Rattle.yp_select.specs.PlaceLaws.{kept_local, selection_local}
use Rattle.yp_select.proofs.laws.selection_is_local.Goals as goal

pub returns : goal.returns
returns c = record { kept = kept_local; selected = selection_local }
