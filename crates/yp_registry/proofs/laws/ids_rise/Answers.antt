use Rattle.yp_registry.proofs.Rising.{rising_first, rising_kept}
use Rattle.yp_registry.proofs.laws.ids_rise.Goals as goal

pub returns-clause-first : goal.returns-clause-first
returns-clause-first c = rising_first

pub returns-clause-kept : goal.returns-clause-kept
returns-clause-kept c = rising_kept
