use Rattle.yp_kept.specs.KeptLaws.{kept_in_order, kept_of_schema, kept_within}
use Rattle.yp_select.proofs.laws.filtered_selection_keeps_rows.Goals as goal

pub returns : goal.returns
returns c = record { order = kept_in_order; schema = kept_of_schema; within = kept_within }
