-- The elements of a list, by their places.
use Rattle.std.proofs.Common.{◌≡◌, ℕ, zero, suc, List, [], ◌∷◌, ◌++◌, length, drop, Some, None, slice_get, refl, sym, ap, ◌∙◌, arith, append_assoc, append-nil, length-append}

-- the element at a place is the first of those behind it
found_next : {X : Type 0} (xs : List X) (i : ℕ) (x : X) → slice_get xs i ≡ Some x → drop i xs ≡ x ∷ drop (suc i) xs
found_next [] i x is = cc
found_next (y ∷ xs) zero x is = let same : y ≡ x = cc in ap (λ z. z ∷ xs) same
found_next (y ∷ xs) (suc i) x is = found_next xs i x is

found_none : {X : Type 0} (xs : List X) (i : ℕ) → slice_get xs i ≡ None → drop i xs ≡ []
found_none [] zero is = refl
found_none [] (suc i) is = refl
found_none (y ∷ xs) zero is = cc
found_none (y ∷ xs) (suc i) is = found_none xs i is

-- one element more of a list that is gathered from its beginning
pub gathered_more : {X : Type 0} (xs done now : List X) (x : X) → done ++ drop (length done) xs ≡ xs → slice_get xs (length done) ≡ Some x → now ≡ done ++ x ∷ [] → now ++ drop (length now) xs ≡ xs
gathered_more xs done now x so is more =
    let count : length now ≡ suc (length done) = ap length more ∙ length-append done (x ∷ []) ∙ omega arith in
    (λ i. more i ++ drop (count i) xs) ∙ append_assoc done (x ∷ []) (drop (suc (length done)) xs) ∙ ap (λ left. done ++ left) (sym (found_next xs (length done) x is)) ∙ so

-- all of them
pub gathered_all : {X : Type 0} (xs done : List X) → done ++ drop (length done) xs ≡ xs → slice_get xs (length done) ≡ None → done ≡ xs
gathered_all xs done so is = sym (append-nil done) ∙ ap (λ left. done ++ left) (sym (found_none xs (length done) is)) ∙ so
