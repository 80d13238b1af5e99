use Rattle.yp_kept.specs.KeptLaws.{kept_readable, value_kept}
use Rattle.yp_select.proofs.laws.filtered_rows_may_be_read.Goals as goal

pub returns : goal.returns
returns c = record { each = kept_readable; value = value_kept }
