use Rattle.yp_touch.specs.RecordLaws.{rows_conceal, record_conceals}
use Rattle.yp_touch.proofs.laws.the_record_conceals.Goals as goal

pub returns-clause-rows : goal.returns-clause-rows
returns-clause-rows c = rows_conceal

pub returns-clause-selections : goal.returns-clause-selections
returns-clause-selections c = record_conceals
