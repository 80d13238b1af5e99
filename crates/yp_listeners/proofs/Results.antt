-- What follows where a call succeeds.
use Rattle.std.specs.Prelude.{Result, Ok, Err, OnOk}

pub when_ok : {X E : Type 0} {A C : Type 0} (r : Result X E) → OnOk r A → (A → C) → OnOk r C
when_ok (Ok x) a f = f a
when_ok (Err e) a f = tt

pub when_both : {X E : Type 0} {A B C : Type 0} (r : Result X E) → OnOk r A → OnOk r B → (A → B → C) → OnOk r C
when_both (Ok x) a b f = f a b
when_both (Err e) a b f = tt
