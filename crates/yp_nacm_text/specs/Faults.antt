-- The first fault of a policy, with the place that has it, and what a call answers.
use Rattle.std.specs.Prelude.{◌≡◌, Result, Ok, Err}
use Rattle.yp_nacm_text.specs.declared.fault.Place.{Place}
use Rattle.yp_nacm_text.specs.declared.fault.PolicyFault.{PolicyFault}
use Rattle.yp_nacm_text.specs.declared.fault.PolicyFault.TheVariants.{At, Memory}
use Rattle.yp_nacm_text.specs.declared.fault.PolicyKind.{PolicyKind}

-- a place, and what is wrong there
abbrev pub Fault : Type 0
Fault = Place × PolicyKind

-- an error is this fault, unless memory ran out
abbrev pub Tells : {X : Type 0} → PolicyFault → Result X Fault → Type 0
Tells (At place kind) read = read ≡ Err (place, kind)
Tells Memory read = Unit {0}

-- what is answered is what the definition gives
abbrev pub Reads : {X : Type 0} → Result X PolicyFault → Result X Fault → Type 0
Reads (Ok x) read = read ≡ Ok x
Reads (Err error) read = Tells error read
