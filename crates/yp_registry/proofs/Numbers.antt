-- Numbers from the first on, of which some are left.
use Rattle.std.proofs.Common.{◌≡◌, ℕ, zero, suc, ◌+◌, ◌<◌, ◌≤◌, length, arith, List, [], ◌∷◌, ◌++◌, Bool, ap, sym, ◌∙◌}
use Rattle.std.specs.Prelude.{cond, filter}
use Rattle.std.specs.List.{AllByRecursion, range_with_len, slice_get}
use Rattle.std.specs.List.Sorted.{IsStrictlyIncreasing}
use Rattle.std.proofs.lemmas.List.Elements.{filter-append}
use Rattle.std.proofs.lemmas.List.FromFn.{get_or-range_with_len, length-range_with_len}
use Rattle.yp_registry.specs.Configuring.{is_asked}

-- all are below their end
pub below_end : (a n bound : ℕ) → a + n ≤ bound → AllByRecursion (λ (number : ℕ). number < bound) (range_with_len a n)
below_end a zero bound within = tt
below_end a (suc n) bound within = (omega (arith, within), below_end (a + 1) n bound (omega (arith, within)))

pub range_rises : (n : ℕ) → IsStrictlyIncreasing (range_with_len 0 n)
range_rises n k within =
    let long : length (range_with_len 0 n) ≡ n = length-range_with_len 0 n in
    let here = get_or-range_with_len 0 n k 0 (omega (arith, long, within)) in
    let next = get_or-range_with_len 0 n (k + 1) 0 (omega (arith, long, within)) in
    omega (arith, here, next)

range_more : (a n : ℕ) → range_with_len a (suc n) ≡ range_with_len a n ++ (a + n) ∷ []
range_more a zero =
    let same : a ≡ a + 0 = omega arith in
    ap (λ (number : ℕ). number ∷ []) same
range_more a (suc n) =
    let same : (a + 1) + n ≡ a + suc n = omega arith in
    ap (λ (rest : List ℕ). a ∷ rest) (range_more (a + 1) n ∙ ap (λ (number : ℕ). range_with_len (a + 1) n ++ number ∷ []) same)

-- with one number more it is left too, where it passes
numbers_more : (test : ℕ → Bool) (n : ℕ) → filter test (range_with_len 0 (n + 1)) ≡ filter test (range_with_len 0 n) ++ cond (test n) (n ∷ []) []
numbers_more test n =
    let next : n + 1 ≡ suc n = omega arith in
    let last : 0 + n ≡ n = omega arith in
    ap (λ (number : ℕ). filter test (range_with_len 0 number)) next
    ∙ ap (filter test) (range_more 0 n ∙ ap (λ (number : ℕ). range_with_len 0 n ++ number ∷ []) last)
    ∙ filter-append test (range_with_len 0 n) (n ∷ [])

-- so it goes with receivers that have one of some names
pub named_more : (asked names : List (List ℕ)) (n : ℕ) (before after : List ℕ) (is : Bool) → is ≡ is_asked asked (slice_get names n) → before ≡ filter (λ (number : ℕ). is_asked asked (slice_get names number)) (range_with_len 0 n)
    → after ≡ before ++ cond is (n ∷ []) [] → after ≡ filter (λ (number : ℕ). is_asked asked (slice_get names number)) (range_with_len 0 (n + 1))
named_more asked names n before after is of_is of_before of_after =
    of_after
    ∙ ap (λ (passes : Bool). before ++ cond passes (n ∷ []) []) of_is
    ∙ ap (λ (numbers : List ℕ). numbers ++ cond (is_asked asked (slice_get names n)) (n ∷ []) []) of_before
    ∙ sym (numbers_more (λ (number : ℕ). is_asked asked (slice_get names number)) n)
