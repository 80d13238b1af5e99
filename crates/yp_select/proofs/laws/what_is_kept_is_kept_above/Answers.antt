use Rattle.yp_kept.specs.KeptLaws.{kept_above}
use Rattle.yp_select.proofs.laws.what_is_kept_is_kept_above.Goals as goal

pub returns : goal.returns
returns c = kept_above
