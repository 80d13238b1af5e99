-- Steps that may fail.
use Rattle.std.specs.Prelude.{◌≡◌, Bool, false, if◌then◌else◌, Option, Some, None, is_some, Result, Ok, Err, IfOk, refl}
use mathlib.Core.Path.{◌∙◌}

-- a step, and the next one with what it gave; the first fault stands
infixl 10 ◌>>=◌
abbrev pub ◌>>=◌ : {A B F : Type 0} → Result A F → (A → Result B F) → Result B F
(Ok x) >>= f = f x
(Err e) >>= f = Err e

-- what is there, or this fault
abbrev pub or_fault : {A F : Type 0} → F → Option A → Result A F
or_fault e None = Err e
or_fault e (Some x) = Ok x

-- what passes a test
abbrev pub tested : {X : Type 0} → (X → Bool) → X → Option X
tested test x = if test x then Some x else None

-- what is not there is None
pub none_is : {X : Type 0} (o : Option X) → is_some o ≡ false → o ≡ None
none_is None h = refl
none_is (Some x) h = cc

-- next steps that agree on what a step gives
pub bind_same : {A B F : Type 0} (step : Result A F) (f g : A → Result B F) → ((x : A) → f x ≡ g x) → (step >>= f) ≡ (step >>= g)
bind_same (Ok x) f g same = same x
bind_same (Err e) f g same = refl

-- what is answered is also what that is the same as
pub same_answer : {X E : Type 0} (answer : Result X E) (x y : X) → x ≡ y → IfOk answer (λ is. is ≡ x) → IfOk answer (λ is. is ≡ y)
same_answer (Ok is) x y same h = h ∙ same
same_answer (Err e) x y same h = tt
