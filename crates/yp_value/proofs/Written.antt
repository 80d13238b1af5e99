-- Written numbers are ASCII.
use Rattle.std.proofs.Common.{ℕ, zero, suc, ◌<◌, ◌+◌, ◌-◌, ◌^◌, ◌==◌, List, [], ◌∷◌, Bool, true, false, cond, length, take, drop, replicate, arith}
use Rattle.std.specs.Prelude.{ℤ, pos, negsuc, unsigned_abs}
use Rattle.std.specs.Fmt.{decimal}
use Rattle.std.specs.Str.{IsAscii}
use Rattle.std.proofs.lemmas.Str.{IsAscii-take, IsAscii-drop, IsAscii-append}
use Rattle.std.proofs.lemmas.Str.Ascii.{IsAscii-nil, IsAscii-cons}
use Rattle.std.proofs.lemmas.Fmt.{IsAscii-decimal}
use Rattle.yp_value.specs.Texts.{filled_up, in_front_of_rest, without_end_zeros, shortened, with_point, magnitude_text, decimal_text}

ascii_zeros : (k : ℕ) → IsAscii (replicate k 48)
ascii_zeros zero = IsAscii-nil
ascii_zeros (suc k) = IsAscii-cons 48 (replicate k 48) (omega arith) (ascii_zeros k)

ascii_unless : (t : Bool) (digit : ℕ) → digit < 128 → IsAscii (cond t [] (digit ∷ []))
ascii_unless true digit h = IsAscii-nil
ascii_unless false digit h = IsAscii-cons digit [] h IsAscii-nil

ascii_in_front : (digit : ℕ) (rest : List ℕ) → digit < 128 → IsAscii rest → IsAscii (in_front_of_rest digit rest)
ascii_in_front digit [] h r = ascii_unless (digit == 48) digit h
ascii_in_front digit (next ∷ rest) h r = IsAscii-cons digit (next ∷ rest) h r

ascii_cut : (digits : List ℕ) → IsAscii digits → IsAscii (without_end_zeros digits)
ascii_cut [] h = IsAscii-nil
ascii_cut (digit ∷ digits) h = ascii_in_front digit (without_end_zeros digits) (h 0) (ascii_cut digits (IsAscii-drop (digit ∷ digits) 1 h))

ascii_shortened : (digits : List ℕ) → IsAscii digits → IsAscii (shortened digits)
ascii_shortened [] h = IsAscii-nil
ascii_shortened (digit ∷ digits) h = IsAscii-cons digit (without_end_zeros digits) (h 0) (ascii_cut digits (IsAscii-drop (digit ∷ digits) 1 h))

ascii_pointed : (places : ℕ) (digits : List ℕ) → IsAscii digits → IsAscii (with_point places digits)
ascii_pointed places digits h =
    let k = length digits - places in
    IsAscii-append (take k digits) (46 ∷ shortened (drop k digits)) (IsAscii-take digits k h) (IsAscii-cons 46 (shortened (drop k digits)) (omega arith) (ascii_shortened (drop k digits) (IsAscii-drop digits k h)))

ascii_magnitude : (units places : ℕ) → units < 2 ^ 64 → IsAscii (magnitude_text units places)
ascii_magnitude units places h =
    ascii_pointed places (filled_up (places + 1) (decimal units)) (IsAscii-append (replicate (places + 1 - length (decimal units)) 48) (decimal units) (ascii_zeros (places + 1 - length (decimal units))) (IsAscii-decimal units h))

pub ascii_decimal : (units : ℤ) (places : ℕ) → unsigned_abs units < 2 ^ 64 → IsAscii (decimal_text units places)
ascii_decimal (pos n) places h = ascii_magnitude n places h
ascii_decimal (negsuc n) places h = IsAscii-cons 45 (magnitude_text (suc n) places) (omega arith) (ascii_magnitude (suc n) places h)
