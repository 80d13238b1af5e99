-- A periodic trigger with its anchor has due ticks.
use Rattle.std.proofs.Common.{ℕ, Some}
use Rattle.std.specs.Prelude.{ℤ}
use Rattle.yp_base.specs.declared.notice.Trigger.TheVariants.{Periodic as Every}
use Rattle.yp_time.specs.DueLaws.{not_before}
use Rattle.yp_serial.specs.DueTicks.{HasDueTicks}

pub anchored : (period : ℕ) (anchor : ℤ) → HasDueTicks (Every period (Some anchor))
anchored period anchor = not_before anchor period
