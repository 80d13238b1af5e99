-- Numbers that were written are read again.
use Rattle.std.proofs.Common.{◌≡◌, ℕ, zero, suc, ◌<◌, ◌≤◌, ◌+◌, ◌-◌, ◌*◌, ◌/◌, ◌%◌, ◌^◌, ◌==◌, ◌&&◌, List, [], ◌∷◌, ◌++◌, Bool, true, false, not, cond, Option, Some, None, option_and_then, length, take, drop, replicate, nat_lt, nat_le, refl, sym, ap, ◌∙◌, arith}
use Rattle.std.specs.Prelude.{ℤ, pos, negsuc}
use Rattle.std.specs.Fmt.{decimal, signed_decimal}
use Rattle.std.specs.List.{position_or_len}
use Rattle.std.proofs.lemmas.Fmt.{decimal_by_steps, decimal_nonempty}
use Rattle.std.proofs.lemmas.List.{length-replicate, length-append, length-take-le, take-append-drop}
use Rattle.std.proofs.lemmas.Bool.{and_parts, and_from, leb-true, le-leb, lt-ltb, eqb-true, ne_eqb}
use Rattle.std.proofs.Math.Seq.{take-append_seam, drop-append-add}
use Rattle.yp_value.specs.Texts.{is_digit, value_from, magnitude_in, cut_sign, signed_in, number_in, around_point, units_in, units_around, decimal_at, decimal_in, is_between, filled_up, in_front_of_rest, without_end_zeros, shortened, with_point, decimal_text}

-- ---- digits

whole_then : (t : Bool) (n b : ℕ) (bs more : List ℕ)
    → value_from (n * 10 + (b - 48)) (bs ++ more) ≡ option_and_then (λ m. value_from m more) (value_from (n * 10 + (b - 48)) bs)
    → cond t (value_from (n * 10 + (b - 48)) (bs ++ more)) None ≡ option_and_then (λ m. value_from m more) (cond t (value_from (n * 10 + (b - 48)) bs) None)
whole_then true n b bs more h = h
whole_then false n b bs more h = refl

-- digits in two pieces
pub value_append : (n : ℕ) (bs more : List ℕ) → value_from n (bs ++ more) ≡ option_and_then (λ m. value_from m more) (value_from n bs)
value_append n [] more = refl
value_append n (b ∷ bs) more = whole_then (is_digit b) n b bs more (value_append (n * 10 + (b - 48)) bs more)

digit_tests : (n : ℕ) → n < 10 → is_digit (48 + n) ≡ true
digit_tests n h = and_from (nat_le 48 (48 + n)) (nat_le (48 + n) 57) (le-leb 48 (48 + n) (omega arith)) (le-leb (48 + n) 57 (omega arith))

one_digit : (k n : ℕ) → n < 10 → value_from k ((48 + n) ∷ []) ≡ Some (k * 10 + n)
one_digit k n h =
    let value : k * 10 + (48 + n - 48) ≡ k * 10 + n = omega arith in
    ap (λ t. cond t (Some (k * 10 + (48 + n - 48))) None) (digit_tests n h) ∙ ap Some value

first_digit : (n : ℕ) → n < 10 → value_from 0 ((48 + n) ∷ []) ≡ Some n
first_digit n h = one_digit 0 n h ∙ (let value : 0 * 10 + n ≡ n = omega arith in ap Some value)

next_digit : (n : ℕ) (digits : List ℕ) → 10 ≤ n → value_from 0 digits ≡ Some (n / 10) → value_from 0 (digits ++ (48 + n % 10) ∷ []) ≡ Some n
next_digit n digits h e =
    let less : n % 10 < 10 = omega arith in
    let value : n / 10 * 10 + n % 10 ≡ n = omega arith in
    value_append 0 digits ((48 + n % 10) ∷ []) ∙ ap (option_and_then (λ m. value_from m ((48 + n % 10) ∷ []))) e ∙ one_digit (n / 10) (n % 10) less ∙ ap Some value

-- the digits of a number spell it
pub spelled : (n : ℕ) → n < 2 ^ 64 → value_from 0 (decimal n) ≡ Some n
spelled n h = decimal_by_steps (λ n digits. value_from 0 digits ≡ Some n) first_digit next_digit n h

digit_at : (t : Bool) (o : Option ℕ) (m : ℕ) → cond t o None ≡ Some m → t ≡ true
digit_at true o m e = refl
digit_at false o m e = cc

-- a first byte that is spelled is a digit
first_is_digit : (n byte : ℕ) (bytes : List ℕ) (m : ℕ) → value_from n (byte ∷ bytes) ≡ Some m → is_digit byte ≡ true
first_is_digit n byte bytes m e = digit_at (is_digit byte) (value_from (n * 10 + (byte - 48)) bytes) m e

rest_at : (t : Bool) (o : Option ℕ) (m : ℕ) → cond t o None ≡ Some m → o ≡ Some m
rest_at true o m e = e
rest_at false o m e = cc

rest_is_spelled : (n byte : ℕ) (bytes : List ℕ) (m : ℕ) → value_from n (byte ∷ bytes) ≡ Some m → value_from (n * 10 + (byte - 48)) bytes ≡ Some m
rest_is_spelled n byte bytes m e = rest_at (is_digit byte) (value_from (n * 10 + (byte - 48)) bytes) m e

least_digit : (byte : ℕ) → is_digit byte ≡ true → 48 ≤ byte
least_digit byte h = leb-true 48 byte (and_parts (nat_le 48 byte) (nat_le byte 57) h).0

no_minus : (byte : ℕ) → is_digit byte ≡ true → (byte == 45) ≡ false
no_minus byte h = let low = least_digit byte h in ne_eqb byte 45 (λ is. omega arith)

no_plus : (byte : ℕ) → is_digit byte ≡ true → (byte == 43) ≡ false
no_plus byte h = let low = least_digit byte h in ne_eqb byte 43 (λ is. omega arith)

no_point : (byte : ℕ) → is_digit byte ≡ true → (byte == 46) ≡ false
no_point byte h = let low = least_digit byte h in ne_eqb byte 46 (λ is. omega arith)

-- digits have no sign
no_sign : (digits : List ℕ) (m : ℕ) → value_from 0 digits ≡ Some m → cut_sign digits ≡ (false, digits)
no_sign [] m e = refl
no_sign (byte ∷ bytes) m e =
    let digit = first_is_digit 0 byte bytes m e in
    ap (λ t. cond t (true, bytes) (cond (byte == 43) (false, bytes) (false, byte ∷ bytes))) (no_minus byte digit)
    ∙ ap (λ t. cond t (false, bytes) (false, byte ∷ bytes)) (no_plus byte digit)

magnitude_is : (digits : List ℕ) → 0 < length digits → magnitude_in digits ≡ value_from 0 digits
magnitude_is [] h = absurd (omega arith)
magnitude_is (byte ∷ bytes) h = refl

-- ---- whole numbers

plain_number : (low high n : ℕ) → n < 2 ^ 64 → number_in low high (decimal n) ≡ signed_in low high false n
plain_number low high n h =
    ap (λ (cut : Bool × List ℕ). option_and_then (signed_in low high cut.0) (magnitude_in cut.1)) (no_sign (decimal n) n (spelled n h))
    ∙ ap (option_and_then (signed_in low high false)) (magnitude_is (decimal n) (decimal_nonempty n h) ∙ spelled n h)

minus_number : (low high n : ℕ) → n < 2 ^ 64 → number_in low high (45 ∷ decimal n) ≡ signed_in low high true n
minus_number low high n h = ap (option_and_then (signed_in low high true)) (magnitude_is (decimal n) (decimal_nonempty n h) ∙ spelled n h)

-- a whole number is read again
pub number_again : (low high : ℕ) (z : ℤ) → low < 2 ^ 64 → high < 2 ^ 64 → is_between low high z ≡ true → number_in low high (signed_decimal z) ≡ Some z
number_again low high (pos n) l h e =
    let small : n < 2 ^ 64 = omega (arith, leb-true n high e) in
    plain_number low high n small ∙ ap (λ t. cond t (Some (pos n)) None) e
number_again low high (negsuc n) l h e =
    let small : suc n < 2 ^ 64 = omega (arith, leb-true (suc n) low e) in
    minus_number low high (suc n) small ∙ ap (λ t. cond t (Some (negsuc n)) None) e

-- ---- decimals

-- zeros in front change nothing
zeros_in_front : (k : ℕ) (digits : List ℕ) → value_from 0 (replicate k 48 ++ digits) ≡ value_from 0 digits
zeros_in_front zero digits = refl
zeros_in_front (suc k) digits = zeros_in_front k digits

Zeros : List ℕ → List ℕ → Type 0
Zeros digits whole = (k : ℕ) × (digits ++ replicate k 48 ≡ whole)

cut_in_front : (t : Bool) (digit k : ℕ) (digits : List ℕ) → (digit == 48) ≡ t → replicate k 48 ≡ digits → (j : ℕ) × (cond t [] (digit ∷ []) ++ replicate j 48 ≡ digit ∷ digits)
cut_in_front true digit k digits is e =
    let zero_digit : 48 ≡ digit = sym (eqb-true digit 48 is) in
    (suc k, λ i. zero_digit i ∷ e i)
cut_in_front false digit k digits is e = (k, ap (λ (ds : List ℕ). digit ∷ ds) e)

front_again : (digit : ℕ) (rest digits : List ℕ) (k : ℕ) → rest ++ replicate k 48 ≡ digits → (j : ℕ) × (in_front_of_rest digit rest ++ replicate j 48 ≡ digit ∷ digits)
front_again digit [] digits k e = cut_in_front (digit == 48) digit k digits refl e
front_again digit (next ∷ rest) digits k e = (k, ap (λ (ds : List ℕ). digit ∷ ds) e)

cut_again : (digits : List ℕ) → (k : ℕ) × (without_end_zeros digits ++ replicate k 48 ≡ digits)
cut_again [] = (0, refl)
cut_again (digit ∷ digits) = let rest = cut_again digits in front_again digit (without_end_zeros digits) digits rest.0 rest.1

-- digits without zeros at their end, and these zeros
shortened_again : (digits : List ℕ) → (k : ℕ) × (shortened digits ++ replicate k 48 ≡ digits)
shortened_again [] = (0, refl)
shortened_again (digit ∷ digits) = let rest = cut_again digits in (rest.0, ap (λ (ds : List ℕ). digit ∷ ds) rest.1)

fill_again : (places : ℕ) (digits : List ℕ) → length digits ≡ places → shortened digits ++ replicate (places - length (shortened digits)) 48 ≡ digits
fill_again places digits h =
    let again = shortened_again digits in
    let lengths : length (shortened digits) + again.0 ≡ length digits = ap (λ k. length (shortened digits) + k) (sym (length-replicate again.0 48)) ∙ sym (length-append (shortened digits) (replicate again.0 48)) ∙ ap length again.1 in
    let count : places - length (shortened digits) ≡ again.0 = omega arith in
    ap (λ k. shortened digits ++ replicate k 48) count ∙ again.1

shortened_fits : (places : ℕ) (digits : List ℕ) → length digits ≡ places → length (shortened digits) ≤ places
shortened_fits places digits h =
    let again = shortened_again digits in
    let lengths : length (shortened digits) + again.0 ≡ length digits = ap (λ k. length (shortened digits) + k) (sym (length-replicate again.0 48)) ∙ sym (length-append (shortened digits) (replicate again.0 48)) ∙ ap length again.1 in
    omega arith

shortened_not_empty : (digits : List ℕ) → 0 < length digits → 0 < length (shortened digits)
shortened_not_empty [] h = absurd (omega arith)
shortened_not_empty (digit ∷ digits) h = omega arith

-- digits have no point
point_behind : (n : ℕ) (digits : List ℕ) (m : ℕ) (rest : List ℕ) → value_from n digits ≡ Some m → position_or_len (λ byte. byte == 46) (digits ++ 46 ∷ rest) ≡ length digits
point_behind n [] m rest e = refl
point_behind n (byte ∷ bytes) m rest e =
    let more : 1 + length bytes ≡ suc (length bytes) = omega arith in
    ap (λ t. cond (not t) (1 + position_or_len (λ b. b == 46) (bytes ++ 46 ∷ rest)) 0) (no_point byte (first_is_digit n byte bytes m e))
    ∙ ap (λ k. 1 + k) (point_behind (n * 10 + (byte - 48)) bytes m rest (rest_is_spelled n byte bytes m e)) ∙ more

cut_there : (front rest whole : List ℕ) → position_or_len (λ byte. byte == 46) whole ≡ length front → length front < length whole → take (length front) whole ≡ front → drop (length front + 1) whole ≡ rest
    → around_point whole ≡ (front, Some rest)
cut_there front rest whole e longer before after =
    let there : nat_lt (length front) (length whole) ≡ true = lt-ltb (length front) (length whole) longer in
    ap (λ k. cond (nat_lt k (length whole)) (take k whole, Some (drop (k + 1) whole)) (whole, None)) e
    ∙ ap (λ t. cond t (take (length front) whole, Some (drop (length front + 1) whole)) (whole, None)) there
    ∙ (λ i. (before i, Some (after i)))

-- a text is cut at its point
pub cut_at_point : (front rest : List ℕ) → position_or_len (λ byte. byte == 46) (front ++ 46 ∷ rest) ≡ length front → around_point (front ++ 46 ∷ rest) ≡ (front, Some rest)
cut_at_point front rest e =
    let longer : length front < length (front ++ 46 ∷ rest) = omega (arith, length-append front (46 ∷ rest)) in
    cut_there front rest (front ++ 46 ∷ rest) e longer (take-append_seam front (46 ∷ rest)) (drop-append-add front (46 ∷ rest) 1)

some_first : (o : Option ℕ) (g : ℕ → Option ℕ) (m : ℕ) → option_and_then g o ≡ Some m → (w : ℕ) × (o ≡ Some w)
some_first None g m e = cc
some_first (Some w) g m e = (w, refl)

-- the parts of digits that spell a number, as they are read around a point
module _ (places : ℕ) (digits : List ℕ) (m : ℕ) (some : 1 ≤ places) (more : places < length digits) (spells : value_from 0 digits ≡ Some m) where
  whole : List ℕ
  whole = take (length digits - places) digits

  part : List ℕ
  part = drop (length digits - places) digits

  joined : whole ++ part ≡ digits
  unfolding whole part
  joined = take-append-drop (length digits - places) digits

  whole_length : length whole ≡ length digits - places
  unfolding whole
  whole_length = length-take-le (length digits - places) digits (omega arith)

  part_length : length part ≡ places
  part_length =
      let sum : length whole + length part ≡ length digits = sym (length-append whole part) ∙ ap length joined in
      let front : length whole ≡ length digits - places = whole_length in
      omega arith

  in_parts : option_and_then (λ n. value_from n part) (value_from 0 whole) ≡ Some m
  in_parts = sym (value_append 0 whole part) ∙ ap (value_from 0) joined ∙ spells

  whole_spelled : (w : ℕ) × (value_from 0 whole ≡ Some w)
  whole_spelled = some_first (value_from 0 whole) (λ n. value_from n part) m in_parts

  units_again : units_around places (whole, Some (shortened part)) ≡ Some m
  units_again =
      let front : length whole ≡ length digits - places = whole_length in
      let back : length part ≡ places = part_length in
      let not_empty : 0 < length whole = omega arith in
      let filled : 0 < length part = omega arith in
      let some_part : nat_lt 0 (length (shortened part)) ≡ true = lt-ltb 0 (length (shortened part)) (shortened_not_empty part filled) in
      let fits : nat_le (length (shortened part)) places ≡ true = le-leb (length (shortened part)) places (shortened_fits places part back) in
      ap (λ t. cond (t && nat_le (length (shortened part)) places) (units_in places whole (shortened part)) None) some_part
      ∙ ap (λ t. cond t (units_in places whole (shortened part)) None) fits
      ∙ ap (λ (ds : List ℕ). option_and_then (λ n. value_from n ds) (magnitude_in whole)) (fill_again places part back)
      ∙ ap (option_and_then (λ n. value_from n part)) (magnitude_is whole not_empty)
      ∙ in_parts

  plain_point : decimal_in places (whole ++ 46 ∷ shortened part) ≡ signed_in (2 ^ 63) (2 ^ 63 - 1) false m
  plain_point =
      let w = whole_spelled in
      ap (decimal_at places) (cut_at_point whole (shortened part) (point_behind 0 whole w.0 (shortened part) w.1))
      ∙ ap (λ (cut : Bool × List ℕ). option_and_then (signed_in (2 ^ 63) (2 ^ 63 - 1) cut.0) (units_around places (cut.1, Some (shortened part)))) (no_sign whole w.0 w.1)
      ∙ ap (option_and_then (signed_in (2 ^ 63) (2 ^ 63 - 1) false)) units_again

  minus_point : decimal_in places (45 ∷ whole ++ 46 ∷ shortened part) ≡ signed_in (2 ^ 63) (2 ^ 63 - 1) true m
  minus_point =
      let w = whole_spelled in
      let more_one : 1 + length whole ≡ suc (length whole) = omega arith in
      ap (decimal_at places) (cut_at_point (45 ∷ whole) (shortened part) (ap (λ k. 1 + k) (point_behind 0 whole w.0 (shortened part) w.1) ∙ more_one))
      ∙ ap (option_and_then (signed_in (2 ^ 63) (2 ^ 63 - 1) true)) units_again

  pub plain_again : decimal_in places (with_point places digits) ≡ signed_in (2 ^ 63) (2 ^ 63 - 1) false m
  unfolding whole part
  plain_again = plain_point

  pub minus_again : decimal_in places (45 ∷ with_point places digits) ≡ signed_in (2 ^ 63) (2 ^ 63 - 1) true m
  unfolding whole part
  minus_again = minus_point

filled_length : (count : ℕ) (digits : List ℕ) → count ≤ length (filled_up count digits)
filled_length count digits = omega (arith, length-append (replicate {A = ℕ} (count - length digits) 48) digits, length-replicate {A = ℕ} (count - length digits) 48)

filled_spells : (count n : ℕ) → n < 2 ^ 64 → value_from 0 (filled_up count (decimal n)) ≡ Some n
filled_spells count n h = zeros_in_front (count - length (decimal n)) (decimal n) ∙ spelled n h

-- a decimal is read again
pub decimal_again : (places : ℕ) (z : ℤ) → 1 ≤ places → is_between (2 ^ 63) (2 ^ 63 - 1) z ≡ true → decimal_in places (decimal_text z places) ≡ Some z
decimal_again places (pos n) some e =
    let small : n < 2 ^ 64 = omega (arith, leb-true n (2 ^ 63 - 1) e) in
    let longer : places < length (filled_up (places + 1) (decimal n)) = omega (arith, filled_length (places + 1) (decimal n)) in
    plain_again places (filled_up (places + 1) (decimal n)) n some longer (filled_spells (places + 1) n small) ∙ ap (λ t. cond t (Some (pos n)) None) e
decimal_again places (negsuc n) some e =
    let small : suc n < 2 ^ 64 = omega (arith, leb-true (suc n) (2 ^ 63) e) in
    let longer : places < length (filled_up (places + 1) (decimal (suc n))) = omega (arith, filled_length (places + 1) (decimal (suc n))) in
    minus_again places (filled_up (places + 1) (decimal (suc n))) (suc n) some longer (filled_spells (places + 1) (suc n) small) ∙ ap (λ t. cond t (Some (negsuc n)) None) e
