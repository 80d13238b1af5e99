use Rattle.yp_touch.specs.RecordLaws.{record_of_one}
use Rattle.yp_touch.proofs.laws.the_record_of_one_selection_is_empty.Goals as goal

pub returns : goal.returns
returns c = record_of_one
