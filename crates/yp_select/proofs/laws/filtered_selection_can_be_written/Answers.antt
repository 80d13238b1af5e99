use Rattle.yp_kept.specs.KeptLaws.{kept_writable}
use Rattle.yp_select.proofs.laws.filtered_selection_can_be_written.Goals as goal

pub returns : goal.returns
returns c = kept_writable
