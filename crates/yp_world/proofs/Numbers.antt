-- Each receiver is one of those that its worker serves, and stands among them just once.
use Rattle.std.proofs.Common.{◌≡◌, ℕ, zero, suc, ◌<◌, ◌≤◌, refl, ap, ◌∙◌, Bool, true, false, [], ◌∷◌, ◌++◌, arith}
use Rattle.std.specs.Prelude.{if◌then◌else◌, ◌==◌, ◌%◌}
use Rattle.std.specs.List.{filter}
use Rattle.std.proofs.lemmas.Bool.{eqb-true}
use Rattle.std.proofs.lemmas.List.Elements.{filter-append}
use Rattle.yp_attempt.specs.Attempts.{IsOneOf}
use Rattle.yp_attempt.specs.ListLaws.{filter_pass, filter_fail}
use Rattle.yp_attempt.specs.Workers.{numbers_of}

abbrev is_it : ℕ → ℕ → Bool
is_it receiver x = x == receiver

other_number : (a b : ℕ) → a < b → (a == b) ≡ false
other_number a b less = grind (arith, less)

not_less : (a b : ℕ) → (a == b) ≡ false → b < suc a → b < a
not_less a b e less = grind (arith, e, less)

self_is : (a : ℕ) → (a == a) ≡ true
self_is a = grind arith

none_of_other : (receiver count : ℕ) (b : Bool) → (count == receiver) ≡ false → filter (is_it receiver) (if b then count ∷ [] else []) ≡ []
none_of_other receiver count true e = filter_fail (is_it receiver) count [] e
none_of_other receiver count false e = refl

none_below : (worker workers receiver count : ℕ) → count ≤ receiver → filter (is_it receiver) (numbers_of worker workers count) ≡ []
none_below worker workers receiver zero few = refl
none_below worker workers receiver (suc count) few =
    filter-append (is_it receiver) (numbers_of worker workers count) (if count % workers == worker then count ∷ [] else [])
    ∙ (λ i. none_below worker workers receiver count (omega (arith, few)) i ++ none_of_other receiver count (count % workers == worker) (other_number count receiver (omega (arith, few))) i)

pub one_of : (workers receiver count : ℕ) → receiver < count → IsOneOf receiver (numbers_of (receiver % workers) workers count)
one_of workers receiver zero less = absurd (omega (arith, less))
one_of workers receiver (suc count) less =
    filter-append (is_it receiver) (numbers_of (receiver % workers) workers count) (if count % workers == receiver % workers then count ∷ [] else [])
    ∙ by (count == receiver) refl (λ e. one_of workers receiver count (not_less count receiver e less))
  where
    -- the last number is its, with its worker's remainder, or it stands before
    its_last : count ≡ receiver → filter (is_it receiver) (if count % workers == receiver % workers then count ∷ [] else []) ≡ receiver ∷ []
    its_last same =
        ap (λ (n : ℕ). filter (is_it receiver) (if n % workers == receiver % workers then n ∷ [] else [])) same
        ∙ ap (λ (b : Bool). filter (is_it receiver) (if b then receiver ∷ [] else [])) (self_is (receiver % workers))
        ∙ filter_pass (is_it receiver) receiver [] (self_is receiver)

    by : (b : Bool) → (count == receiver) ≡ b → (b ≡ false → filter (is_it receiver) (numbers_of (receiver % workers) workers count) ≡ receiver ∷ [])
        → filter (is_it receiver) (numbers_of (receiver % workers) workers count) ++ filter (is_it receiver) (if count % workers == receiver % workers then count ∷ [] else []) ≡ receiver ∷ []
    by true e before =
        let same : count ≡ receiver = eqb-true count receiver e in
        (λ i. none_below (receiver % workers) workers receiver count (omega (arith, same)) i ++ its_last same i)
    by false e before = (λ i. before refl i ++ none_of_other receiver count (count % workers == receiver % workers) e i)
