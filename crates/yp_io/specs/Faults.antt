-- When reading and writing as a whole may answer a fault.
use Rattle.std.specs.Prelude.{◌≡◌, ℕ, Result, Ok, Err}
use Rattle.yp_io.specs.declared.whole.ReadError.{ReadError}
use Rattle.yp_io.specs.declared.whole.ReadError.TheVariants.{Fault, Memory}
use Rattle.yp_io.specs.Causes.{Rose}

-- reading answers a fault where the count rose, and nowhere else
abbrev pub ReadCause : {T : Type 0} → ℕ → ℕ → Result T ReadError → Type 0
ReadCause before now (Ok x) = now ≡ before
ReadCause before now (Err Fault) = Rose before now
ReadCause before now (Err Memory) = now ≡ before

-- and so does writing
abbrev pub WriteCause : {T E : Type 0} → ℕ → ℕ → Result T E → Type 0
WriteCause before now (Ok x) = now ≡ before
WriteCause before now (Err e) = Rose before now
