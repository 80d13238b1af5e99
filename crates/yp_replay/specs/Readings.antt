-- What a replay answers: what the definition gives, but where memory ran out.
use Rattle.std.specs.Prelude.{◌≡◌, ℕ, List, string_bytes, Option, Some, Result, Ok, Err}
use Rattle.std.specs.declared.string.String.{String}
use Rattle.yp_replay.specs.declared.fault.ReplayFault.{ReplayFault}
use Rattle.yp_replay.specs.declared.fault.ReplayFault.TheVariants.{Script, Stream, Memory}

-- a fault is that of the definition
abbrev pub Fails : {X : Type 0} → ReplayFault → Result X ReplayFault → Type 0
Fails (Script line kind) replayed = replayed ≡ Err (Script line kind)
Fails (Stream line kind) replayed = replayed ≡ Err (Stream line kind)
Fails Memory replayed = Unit {0}

-- the text, or the fault
abbrev pub Gives : {A : Type 0} → Result (String A) ReplayFault → Result (List ℕ) ReplayFault → Type 0
Gives (Ok text) replayed = replayed ≡ Ok (string_bytes text)
Gives (Err fault) replayed = Fails fault replayed

-- a fault is the first of some lines
abbrev pub IsFirstFault : ReplayFault → Option ReplayFault → Type 0
IsFirstFault (Script line kind) first = first ≡ Some (Script line kind)
IsFirstFault (Stream line kind) first = first ≡ Some (Stream line kind)
IsFirstFault Memory first = Unit {0}
