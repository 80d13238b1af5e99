-- The fault of a script.
use Rattle.std.specs.Prelude.{ℕ}
use Rattle.yp_command.specs.declared.fault.ScriptKind.{ScriptKind}

-- the fault of a script: that of its first line with a fault
pub record LineFault : Type 0 where
  pub line : ℕ
  pub kind : ScriptKind
