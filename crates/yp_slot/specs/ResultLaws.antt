-- Facts of results that turn into others.
use Rattle.std.specs.Prelude.{Result, Ok, Err, IfOk, OnOk}

pub when_ok : {X E : Type 0} {A C : Type 0} (r : Result X E) → OnOk r A → (A → C) → OnOk r C
when_ok (Ok x) a f = f a
when_ok (Err e) a f = tt

pub when_all_ok : {X E : Type 0} {A B C D : Type 0} (r : Result X E) → OnOk r A → OnOk r B → OnOk r C → (A → B → C → D) → OnOk r D
when_all_ok (Ok x) a b c f = f a b c
when_all_ok (Err e) a b c f = tt

pub when_is_ok : {X E : Type 0} {A C : X → Type 0} (r : Result X E) → IfOk r A → ((x : X) → A x → C x) → IfOk r C
when_is_ok (Ok x) a f = f x a
when_is_ok (Err e) a f = tt
