-- Zeros at the end of digits.
use Rattle.std.proofs.Common.{◌≡◌, ℕ, zero, suc, ◌<◌, ◌≤◌, ◌-◌, List, [], ◌∷◌, ◌++◌, Bool, true, false, length, take, get_or, cond, ◌==◌, refl, sym, ap, ◌∙◌, arith}
use Rattle.yp_value.specs.Texts.{in_front_of_rest, without_end_zeros, shortened}

-- a zero more at the end is left out
pub without_end_zero : (digits : List ℕ) → without_end_zeros (digits ++ 48 ∷ []) ≡ without_end_zeros digits
without_end_zero [] = refl
without_end_zero (digit ∷ digits) = ap (in_front_of_rest digit) (without_end_zero digits)

pub shortened_zero : (digits : List ℕ) → 0 < length digits → shortened (digits ++ 48 ∷ []) ≡ shortened digits
shortened_zero [] h = absurd (omega arith)
shortened_zero (digit ∷ digits) h = ap (λ (ds : List ℕ). digit ∷ ds) (without_end_zero digits)

kept_at : (digit : ℕ) (digits : List ℕ) (last : ℕ) → in_front_of_rest digit (digits ++ last ∷ []) ≡ digit ∷ (digits ++ last ∷ [])
kept_at digit [] last = refl
kept_at digit (next ∷ rest) last = refl

-- where the last digit is no zero, nothing is left out
pub nothing_left_out : (digits : List ℕ) (last : ℕ) → (last == 48) ≡ false → without_end_zeros (digits ++ last ∷ []) ≡ digits ++ last ∷ []
nothing_left_out [] last h = ap (λ b. cond b [] (last ∷ [])) h
nothing_left_out (digit ∷ digits) last h = ap (in_front_of_rest digit) (nothing_left_out digits last h) ∙ kept_at digit digits last

pub shortened_whole : (digits : List ℕ) (last : ℕ) → (last == 48) ≡ false → shortened (digits ++ last ∷ []) ≡ digits ++ last ∷ []
shortened_whole [] last h = refl
shortened_whole (digit ∷ digits) last h = ap (λ (ds : List ℕ). digit ∷ ds) (nothing_left_out digits last h)

pub shortened_one : (digits : List ℕ) (k : ℕ) → k ≤ 1 → shortened (take k digits) ≡ take k digits
shortened_one digits zero h = refl
shortened_one [] (suc k) h = refl
shortened_one (digit ∷ digits) (suc zero) h = refl
shortened_one (digit ∷ digits) (suc (suc k)) h = absurd (omega arith)

cut_last : (digits : List ℕ) (k : ℕ) → suc k ≤ length digits → take (suc k) digits ≡ take k digits ++ get_or digits k 0 ∷ []
cut_last [] k h = absurd (omega arith)
cut_last (digit ∷ digits) zero h = refl
cut_last (digit ∷ digits) (suc k) h = ap (λ (ds : List ℕ). digit ∷ ds) (cut_last digits k (omega arith))

not_empty : (digits : List ℕ) (k : ℕ) → 0 < k → k ≤ length digits → 0 < length (take k digits)
not_empty [] k h l = absurd (omega arith)
not_empty (digit ∷ digits) zero h l = absurd (omega arith)
not_empty (digit ∷ digits) (suc k) h l = omega arith

-- a zero at the place k is left out
pub one_less : (digits : List ℕ) (k : ℕ) → 1 < k → k ≤ length digits → get_or digits (k - 1) 0 ≡ 48 → shortened (take (k - 1) digits) ≡ shortened (take k digits)
one_less digits zero h l e = absurd (omega arith)
one_less digits (suc zero) h l e = absurd (omega arith)
one_less digits (suc (suc k)) h l e =
    let down : suc (suc k) - 1 ≡ suc k = omega arith in
    let last : get_or digits (suc k) 0 ≡ 48 = sym (ap (λ n. get_or digits n 0) down) ∙ e in
    let shorter : take (suc (suc k)) digits ≡ take (suc k) digits ++ 48 ∷ [] = cut_last digits (suc k) l ∙ ap (λ d. take (suc k) digits ++ d ∷ []) last in
    ap (λ n. shortened (take n digits)) down ∙ sym (ap shortened shorter ∙ shortened_zero (take (suc k) digits) (not_empty digits (suc k) (omega arith) (omega arith)))

no_zero : (t : Bool) (digit : ℕ) → (digit == 48) ≡ t → (digit ≡ 48 → ⊥) → t ≡ false
no_zero true digit is h = absurd (h (grind (arith, is)))
no_zero false digit is h = refl

-- where another digit stands at the place k, nothing is left out
pub no_less : (digits : List ℕ) (k : ℕ) → 1 < k → k ≤ length digits → (get_or digits (k - 1) 0 ≡ 48 → ⊥) → shortened (take k digits) ≡ take k digits
no_less digits zero h l e = absurd (omega arith)
no_less digits (suc k) h l e =
    let down : suc k - 1 ≡ k = omega arith in
    let last : get_or digits k 0 ≡ 48 → ⊥ = λ is. e (ap (λ n. get_or digits n 0) down ∙ is) in
    ap shortened (cut_last digits k l) ∙ shortened_whole (take k digits) (get_or digits k 0) (no_zero (get_or digits k 0 == 48) (get_or digits k 0) refl last) ∙ sym (cut_last digits k l)
