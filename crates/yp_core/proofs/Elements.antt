-- The elements of lists of which one was set, and lists that are split.
use Rattle.std.proofs.Common.{◌≡◌, ℕ, zero, suc, ◌<◌, refl, sym, ap, subst, List, [], ◌∷◌, ◌++◌, map, length, take, replicate, Some, arith}
use Rattle.std.specs.Prelude.{slice_set}
use Rattle.std.specs.List.{slice_get}
use Rattle.std.proofs.lemmas.Option.{same_Some, none-some}
use Rattle.yp_core.specs.Worlds.{StandFor}

-- the elements of one list stand for those of another where one of each was set, at one place
pub stand_for_set : {X Y : Type 0} (P : ℕ → X → Y → Type 0) (xs : List X) (ys : List Y) (i : ℕ) (a : X) (b : Y) → P i a b → StandFor P xs ys → StandFor P (slice_set xs i a) (slice_set ys i b)
stand_for_set P [] ys i a b here all n x e = absurd (none-some x e)
stand_for_set P (z ∷ xs) [] i a b here all n x e = absurd (none-some (all zero z refl).0 (all zero z refl).1)
stand_for_set P (z ∷ xs) (w ∷ ys) zero a b here all zero x e = (b, refl, subst (λ c. P zero c b) (same_Some a x e) here)
stand_for_set P (z ∷ xs) (w ∷ ys) zero a b here all (suc n) x e = all (suc n) x e
stand_for_set P (z ∷ xs) (w ∷ ys) (suc i) a b here all zero x e = all zero x e
stand_for_set P (z ∷ xs) (w ∷ ys) (suc i) a b here all (suc n) x e = stand_for_set (λ k. P (suc k)) xs ys i a b here (λ k. all (suc k)) n x e

-- setting an element to what it is changes nothing
pub set_to_same : {X : Type 0} (xs : List X) (i : ℕ) (x : X) → slice_get xs i ≡ Some x → slice_set xs i x ≡ xs
set_to_same [] i x e = refl
set_to_same {X} (z ∷ xs) zero x e = ap (λ (w : X). w ∷ xs) (sym (same_Some z x e))
set_to_same {X} (z ∷ xs) (suc i) x e = ap (λ (ws : List X). z ∷ ws) (set_to_same xs i x e)

-- a list before an element, the element, and those after it
pub split_at : {X : Type 0} (xs : List X) (k : ℕ) (x : X) → slice_get xs k ≡ Some x → (rest : List X) × (xs ≡ take k xs ++ x ∷ rest)
split_at [] k x e = absurd (none-some x e)
split_at {X} (z ∷ xs) zero x e = (xs, ap (λ (w : X). w ∷ xs) (same_Some z x e))
split_at {X} (z ∷ xs) (suc k) x e = let later = split_at xs k x e in (later.0, ap (λ (ws : List X). z ∷ ws) later.1)

-- one element more
pub take_more : {X : Type 0} (xs : List X) (k : ℕ) (x : X) → slice_get xs k ≡ Some x → take (suc k) xs ≡ take k xs ++ x ∷ []
take_more [] k x e = absurd (none-some x e)
take_more {X} (z ∷ xs) zero x e = ap (λ (w : X). w ∷ []) (same_Some z x e)
take_more {X} (z ∷ xs) (suc k) x e = ap (λ (ws : List X). z ∷ ws) (take_more xs k x e)

-- an element of equal elements
pub among_equal : {X : Type 0} (n i : ℕ) (x : X) → i < n → slice_get (replicate n x) i ≡ Some x
among_equal zero i x less = absurd (omega (arith, less))
among_equal (suc n) zero x less = refl
among_equal (suc n) (suc i) x less = among_equal n i x (omega (arith, less))

-- an image stands for its element
pub get_image : {X Y : Type 0} (f : X → Y) (xs : List X) (i : ℕ) → i < length xs → (x : X) × (slice_get xs i ≡ Some x) × (slice_get (map f xs) i ≡ Some (f x))
get_image f [] i less = absurd (omega (arith, less))
get_image f (x ∷ xs) zero less = (x, refl, refl)
get_image f (x ∷ xs) (suc i) less = get_image f xs i (omega (arith, less))

-- ---- one more at the end

-- what each element has at its place, each has where one more has it
pub each_more : {X : Type 0} (P : ℕ → X → Type 0) (xs : List X) (x : X) → ((n : ℕ) (y : X) → slice_get xs n ≡ Some y → P n y) → P (length xs) x → (n : ℕ) (y : X) → slice_get (xs ++ x ∷ []) n ≡ Some y → P n y
each_more P [] x all here zero y e = subst (λ z. P zero z) (same_Some x y e) here
each_more P [] x all here (suc n) y e = absurd (none-some y e)
each_more P (z ∷ xs) x all here zero y e = all zero y e
each_more P (z ∷ xs) x all here (suc n) y e = each_more (λ k. P (suc k)) xs x (λ k. all (suc k)) here n y e
