-- An element of a list after one of them was set, and the first elements of a list.
use Rattle.std.proofs.Common.{◌≡◌, ℕ, zero, suc, ◌+◌, ◌<◌, refl, sym, ap, ◌∙◌, false, List, [], ◌∷◌, ◌++◌, map, length, take, replicate, Some, arith}
use Rattle.std.specs.Prelude.{◌==◌, slice_set}
use Rattle.std.specs.List.{slice_get}
use Rattle.std.proofs.lemmas.Bool.{true≢false}
use Rattle.std.proofs.lemmas.Option.{same_Some, none-some}

-- ---- an element that was set

pub get_set_same : {X : Type 0} (xs : List X) (i : ℕ) (x y : X) → slice_get xs i ≡ Some x → slice_get (slice_set xs i y) i ≡ Some y
get_set_same [] i x y e = absurd (none-some x e)
get_set_same (z ∷ xs) zero x y e = refl
get_set_same (z ∷ xs) (suc i) x y e = get_set_same xs i x y e

pub get_set_other : {X : Type 0} (xs : List X) (i j : ℕ) (y : X) → (i == j) ≡ false → slice_get (slice_set xs i y) j ≡ slice_get xs j
get_set_other [] i j y e = refl
get_set_other (z ∷ xs) zero zero y e = absurd (true≢false e)
get_set_other (z ∷ xs) zero (suc j) y e = refl
get_set_other (z ∷ xs) (suc i) zero y e = refl
get_set_other (z ∷ xs) (suc i) (suc j) y e = get_set_other xs i j y (one_less i j e)
  where
    one_less : (i j : ℕ) → (suc i == suc j) ≡ false → (i == j) ≡ false
    one_less i j e = grind (arith, e)

-- an element is replaced by one that looks the same
pub set_looks_same : {X Y : Type 0} (f : X → Y) (xs : List X) (i : ℕ) (x y : X) → slice_get xs i ≡ Some x → f y ≡ f x → map f (slice_set xs i y) ≡ map f xs
set_looks_same f [] i x y e same = refl
set_looks_same {X} {Y} f (z ∷ xs) zero x y e same = ap (λ (w : Y). w ∷ map f xs) (same ∙ ap f (sym (same_Some z x e)))
set_looks_same {X} {Y} f (z ∷ xs) (suc i) x y e same = ap (λ (ws : List Y). f z ∷ ws) (set_looks_same f xs i x y e same)

-- ---- the first elements

pub take_one_more : {X : Type 0} (xs : List X) (k : ℕ) (x : X) → slice_get xs k ≡ Some x → take (k + 1) xs ≡ take k xs ++ x ∷ []
take_one_more {X} xs k x e = let more : k + 1 ≡ suc k = omega arith in ap (λ (n : ℕ). take n xs) more ∙ by_suc xs k e
  where
    by_suc : (xs : List X) (k : ℕ) → slice_get xs k ≡ Some x → take (suc k) xs ≡ take k xs ++ x ∷ []
    by_suc [] k e = absurd (none-some x e)
    by_suc (y ∷ xs) zero e = ap (λ (z : X). z ∷ []) (same_Some y x e)
    by_suc (y ∷ xs) (suc k) e = ap (λ (zs : List X). y ∷ zs) (by_suc xs k e)

-- ---- lists of equal elements, and of images

pub get_replicate : {X : Type 0} (n i : ℕ) (x y : X) → slice_get (replicate n x) i ≡ Some y → y ≡ x
get_replicate zero i x y e = absurd (none-some y e)
get_replicate (suc n) zero x y e = sym (same_Some x y e)
get_replicate (suc n) (suc i) x y e = get_replicate n i x y e

-- an element below the length is there
pub get_below : {X : Type 0} (xs : List X) (i : ℕ) → i < length xs → (x : X) × (slice_get xs i ≡ Some x)
get_below [] i less = absurd (omega (arith, less))
get_below (x ∷ xs) zero less = (x, refl)
get_below (x ∷ xs) (suc i) less = get_below xs i (omega (arith, less))
