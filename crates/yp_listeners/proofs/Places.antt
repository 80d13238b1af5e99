-- The only listener with a number takes a packet.
use Rattle.std.proofs.Common.{◌≡◌, ℕ, zero, suc, ◌+◌, ◌<◌, ◌==◌, not, nat_lt, cond, count_by, Bool, true, false, List, [], ◌∷◌, length, get_or, slice_set, Some, None, refl, sym, subst, arith}
use Rattle.std.specs.List.{position, position_or_len}
use Rattle.std.proofs.lemmas.Bool.{ltb-true}
use Rattle.std.proofs.lemmas.List.Sums.{sum_by-cons}
use Rattle.std.proofs.lemmas.Option.{same_Some}
use Rattle.yp_schema.specs.declared.schema.SchemaNode.{SchemaNode}
use Rattle.yp_queue.specs.declared.packet.Packet.{Packet}
use Rattle.yp_listeners.specs.declared.listener.Listener.{Listener}
use Rattle.yp_listeners.specs.Listeners.{HasTaken, TakesIf, WereGiven, numbers_in}

-- the place that is found, and that it is one of the list
pub record IsPlaceOf {X : Type 0} (p : X → Bool) (xs : List X) (place : ℕ) : Type 0 where
  pub first : place ≡ position_or_len p xs
  pub below : place < length xs

found_if : {X : Type 0} (p : X → Bool) (xs : List X) (place : ℕ) (b : Bool) → nat_lt (position_or_len p xs) (length xs) ≡ b → Some place ≡ cond b (Some (position_or_len p xs)) None → IsPlaceOf p xs place
found_if p xs place true less found =
    let first : place ≡ position_or_len p xs = same_Some place (position_or_len p xs) found in
    record { first = first; below = subst (λ (n : ℕ). n < length xs) (sym first) (ltb-true (position_or_len p xs) (length xs) less) }
found_if p xs place false less found = absurd cc

pub found_place : {X : Type 0} (p : X → Bool) (xs : List X) (place : ℕ) → Some place ≡ position p xs → IsPlaceOf p xs place
found_place p xs place found = found_if p xs place (nat_lt (position_or_len p xs) (length xs)) refl found

-- where one of them is written again with its number, all keep theirs
pub same_numbers : (listeners : List Listener) (place : ℕ) (after d : Listener) → after.receiver ≡ (get_or listeners place d).receiver → numbers_in (slice_set listeners place after) ≡ numbers_in listeners
same_numbers [] place after d same = refl
same_numbers (one ∷ listeners) zero after d same = λ i. same i ∷ numbers_in listeners
same_numbers (one ∷ listeners) (suc place) after d same = λ i. one.receiver ∷ same_numbers listeners place after d same i

module _ (nodes : List SchemaNode) (number : ℕ) (packet : Packet) where
  abbrev has_it : Listener → Bool
  has_it listener = number == listener.receiver

  abbrev one_if : Bool → ℕ
  one_if b = cond b 1 0

  counted : (one : Listener) (listeners : List Listener) → count_by has_it (one ∷ listeners) ≡ one_if (has_it one) + count_by has_it listeners
  counted one listeners = sum_by-cons (λ (listener : Listener). one_if (has_it listener)) one listeners

  -- ---- the rest

  rest_none : (b : Bool) (count rest : ℕ) → count ≡ one_if b + rest → count ≡ 0 → rest ≡ 0
  rest_none true count rest is none = omega (arith, is, none)
  rest_none false count rest is none = omega (arith, is, none)

  stays : (b : Bool) (one : Listener) (count rest : ℕ) → count ≡ one_if b + rest → count ≡ 0 → TakesIf b nodes packet one one
  stays true one count rest is none = absurd (omega (arith, is, none))
  stays false one count rest is none = refl

  -- where none has the number, all stay
  all_stay : (listeners : List Listener) → count_by has_it listeners ≡ 0 → WereGiven nodes number packet listeners listeners
  all_stay [] none = tt
  all_stay (one ∷ listeners) none =
      let count = counted one listeners in (
        stays (has_it one) one (count_by has_it (one ∷ listeners)) (count_by has_it listeners) count none,
        all_stay listeners (rest_none (has_it one) (count_by has_it (one ∷ listeners)) (count_by has_it listeners) count none),
      )

  -- ---- the one

  has_at_zero : (b : Bool) (p : ℕ) → 0 ≡ cond (not b) (1 + p) 0 → b ≡ true
  has_at_zero true p is = refl
  has_at_zero false p is = absurd (omega (arith, is))

  has_not_before : (b : Bool) (place p : ℕ) → suc place ≡ cond (not b) (1 + p) 0 → b ≡ false
  has_not_before true place p is = absurd (omega (arith, is))
  has_not_before false place p is = refl

  place_after : (b : Bool) (place p : ℕ) → suc place ≡ cond (not b) (1 + p) 0 → place ≡ p
  place_after true place p is = absurd (omega (arith, is))
  place_after false place p is = omega (arith, is)

  rest_of_true : (b : Bool) (count rest : ℕ) → b ≡ true → count ≡ one_if b + rest → count ≡ 1 → rest ≡ 0
  rest_of_true true count rest its is one = omega (arith, is, one)
  rest_of_true false count rest its is one = absurd cc

  rest_of_false : (b : Bool) (count rest : ℕ) → b ≡ false → count ≡ one_if b + rest → count ≡ 1 → rest ≡ 1
  rest_of_false true count rest its is one = absurd cc
  rest_of_false false count rest its is one = omega (arith, is, one)

  -- the first that has it takes the packet, and no other has it
  pub one_given : (listeners : List Listener) (place : ℕ) (after d : Listener) → count_by has_it listeners ≡ 1 → place ≡ position_or_len has_it listeners → place < length listeners
      → HasTaken nodes packet (get_or listeners place d) after → WereGiven nodes number packet listeners (slice_set listeners place after)
  one_given [] place after d one is below taken = absurd (omega (arith, below))
  one_given (first ∷ listeners) zero after d one is below taken =
      let its : has_it first ≡ true = has_at_zero (has_it first) (position_or_len has_it listeners) is in (
        subst (λ (b : Bool). TakesIf b nodes packet first after) (sym its) taken,
        all_stay listeners (rest_of_true (has_it first) (count_by has_it (first ∷ listeners)) (count_by has_it listeners) its (counted first listeners) one),
      )
  one_given (first ∷ listeners) (suc place) after d one is below taken =
      let not_its : has_it first ≡ false = has_not_before (has_it first) place (position_or_len has_it listeners) is in (
        subst (λ (b : Bool). TakesIf b nodes packet first first) (sym not_its) refl,
        one_given listeners place after d (rest_of_false (has_it first) (count_by has_it (first ∷ listeners)) (count_by has_it listeners) not_its (counted first listeners) one)
            (place_after (has_it first) place (position_or_len has_it listeners) is) (omega (arith, below)) taken,
      )
