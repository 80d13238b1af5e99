use Rattle.yp_kept.specs.SelectionLaws.{selection_writable}
use Rattle.yp_select.proofs.laws.selection_can_be_written.Goals as goal

pub returns-clause-selection : goal.returns-clause-selection
returns-clause-selection c = selection_writable
