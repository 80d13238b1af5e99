-- What follows where a call succeeds.
use Rattle.std.specs.Prelude.{Result, Ok, Err, OnOk}

pub when_ok : {X E : Type 0} {A C : Type 0} (r : Result X E) → OnOk r A → (A → C) → OnOk r C
when_ok (Ok x) a f = f a
when_ok (Err e) a f = tt
