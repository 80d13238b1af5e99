-- A queue that was full only where it could be, after an attempt more.
use Rattle.std.proofs.Common.{◌≡◌, ℕ, ◌≤◌, refl, ap, subst, ◌∙◌, false, List, [], ◌∷◌, ◌++◌, length}
use Rattle.yp_attempt.specs.Attempts.{FillsFirst, taken_of}
use Rattle.yp_attempt.specs.Tracks.{Attempt, is_taken}

pub not_none : {P : Type 0} (before : List Attempt) (y : Attempt) (after : List Attempt) → [] ≡ before ++ y ∷ after → P
not_none [] y after is = absurd cc
not_none (x ∷ before) y after is = absurd cc

-- what stands in a list with one more at its end is that one, or stood in the list before
stands : {P : Type 0} (xs : List Attempt) (x : Attempt) (before : List Attempt) (y : Attempt) (after : List Attempt) → xs ++ x ∷ [] ≡ before ++ y ∷ after
    → (xs ≡ before → x ≡ y → P) → ((rest : List Attempt) → xs ≡ before ++ y ∷ rest → P) → P
stands [] x [] y after is last earlier =
    let same : x ≡ y = cc in
    last refl same
stands [] x (b ∷ before) y after is last earlier =
    let none : [] ≡ before ++ y ∷ after = cc in
    not_none before y after none
stands (a ∷ xs) x [] y after is last earlier =
    let same : a ≡ y = cc in
    earlier xs (ap (λ (z : Attempt). z ∷ xs) same)
stands (a ∷ xs) x (b ∷ before) y after is last earlier =
    let head : a ≡ b = cc in
    let tail : xs ++ x ∷ [] ≡ before ++ y ∷ after = cc in
    stands xs x before y after tail (λ same. last (λ i. head i ∷ same i)) (λ rest same. earlier rest (λ i. head i ∷ same i))

pub fills_more : (places : ℕ) (xs : List Attempt) (x : Attempt) → FillsFirst places xs → (is_taken x.answer ≡ false → places ≤ length (taken_of xs)) → FillsFirst places (xs ++ x ∷ [])
fills_more places xs x fulls last before y after is full =
    stands xs x before y after is
    (λ same its. subst (λ (those : List Attempt). places ≤ length (taken_of those)) same (last (ap (λ (z : Attempt). is_taken z.answer) its ∙ full)))
    (λ rest same. fulls before y rest same full)
