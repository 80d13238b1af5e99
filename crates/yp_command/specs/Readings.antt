-- What readers of a line's parts return: what the definition gives, but where memory ran out.
use Rattle.std.specs.Prelude.{◌≡◌, Result, Ok, Err}
use Rattle.yp_command.specs.declared.fault.ScriptKind.{ScriptKind}
use Rattle.yp_command.specs.declared.halt.Halt.{Halt}
use Rattle.yp_command.specs.declared.halt.Halt.TheVariants as halts
use Rattle.yp_command.specs.Faults.{Said, least}

-- what stops the reading of a part of a line
abbrev pub Halts : {X : Type 0} → Halt → Said X → Type 0
Halts (halts.Fault own) said = said ≡ Err own
Halts halts.Memory said = Unit {0}

-- what a part of a line says, or what stops it
abbrev pub Tells : {X : Type 0} → Result X Halt → Said X → Type 0
Tells (Ok x) said = said ≡ Ok x
Tells (Err halt) said = Halts halt said

-- what stops a part of a line that has this fault too
abbrev pub beside : ScriptKind → Halt → Halt
beside kind (halts.Fault other) = halts.Fault (least kind other)
beside kind halts.Memory = halts.Memory
