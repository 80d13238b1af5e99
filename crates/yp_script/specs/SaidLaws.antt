-- What holds of all that a line can say.
use Rattle.std.specs.Prelude.{ℕ, Ok, Err, IfOk}
use Rattle.yp_command.specs.Faults.{Said}
use Rattle.yp_script.specs.Script.{at_line}

-- at whichever line
pub line_is : {X : Type 0} (line : ℕ) (said : Said X) (P : X → Type 0) → IfOk said P → IfOk (at_line line said) P
line_is line (Ok x) P is = is
line_is line (Err kind) P is = tt
