-- What follows where steps succeed.
use Rattle.std.proofs.Common.{◌≡◌, Bool, true, false, cond, refl, sym, ap, ◌∙◌, Option, Some, None, option_map, option_and_then, Result, Ok, Err}
use Rattle.yp_base.specs.Results.{◌>>=◌, or_fault}

pub step_ok : {A B F : Type 0} (x : Result A F) (f : A → Result B F) (b : B) → (x >>= f) ≡ Ok b → (a : A) × ((x ≡ Ok a) × (f a ≡ Ok b))
step_ok (Ok a) f b e = (a, (refl, e))
step_ok (Err w) f b e = cc

pub ok_same : {A F : Type 0} (x : Result A F) (a b : A) → x ≡ Ok a → x ≡ Ok b → a ≡ b
ok_same x a b h k = let same = sym h ∙ k in cc

pub there : {A F : Type 0} (w : F) (o : Option A) (a : A) → or_fault w o ≡ Ok a → o ≡ Some a
there w None a e = cc
there w (Some x) a e = let same : x ≡ a = cc in ap (λ y. Some y) same

pub and_then_some : {A B : Type 0} (o : Option A) (f : A → Option B) (b : B) → option_and_then f o ≡ Some b → (a : A) × ((o ≡ Some a) × (f a ≡ Some b))
and_then_some None f b e = cc
and_then_some (Some a) f b e = (a, (refl, e))

pub map_some : {A B : Type 0} (o : Option A) (f : A → B) (b : B) → option_map f o ≡ Some b → (a : A) × ((o ≡ Some a) × (f a ≡ b))
map_some None f b e = cc
map_some (Some a) f b e = (a, (refl, cc))

abbrev value_or : {A : Type 0} → A → Option A → A
value_or d None = d
value_or d (Some a) = a

pub some_same : {A : Type 0} (a b : A) → Some a ≡ Some b → a ≡ b
some_same a b e = ap (value_or a) e

pub cond_some : {A : Type 0} (t : Bool) (o : Option A) (a : A) → cond t o None ≡ Some a → (t ≡ true) × (o ≡ Some a)
cond_some true o a e = (refl, e)
cond_some false o a e = cc

pub cond_ok : {A F : Type 0} (t : Bool) (x : Result A F) (w : F) (a : A) → cond t x (Err w) ≡ Ok a → t ≡ true
cond_ok true x w a e = refl
cond_ok false x w a e = cc
