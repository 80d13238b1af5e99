-- What holds of each element of a list, of the one at a number.
use Rattle.std.specs.Prelude.{◌≡◌, ℕ, zero, suc, List, [], ◌∷◌, Some}
use Rattle.std.proofs.Common.{subst}
use Rattle.std.specs.List.{AllByRecursion, slice_get}

pub one_of : {X : Type 0} (P : X → Type 0) (xs : List X) (number : ℕ) (x : X) → AllByRecursion P xs → slice_get xs number ≡ Some x → P x
one_of P [] number x all there = absurd cc
one_of P (y ∷ xs) zero x all there = let one : y ≡ x = cc in subst P one all.0
one_of P (y ∷ xs) (suc number) x all there = one_of P xs number x all.1 there
