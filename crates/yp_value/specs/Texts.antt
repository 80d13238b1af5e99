-- Texts of values (RFC 7950 sections 4.2.4 and 9.2 to 9.6): which are read, and the canonical one that is written.
use Rattle.std.specs.Prelude.{unsigned_abs, ◌≡◌, ℕ, suc, ◌+◌, ◌-◌, ◌*◌, ◌^◌, ◌==◌, ◌&&◌, ℤ, pos, negsuc, neg_ℤ, List, [], ◌∷◌, ◌++◌, length, take, drop, replicate, Bool, true, false, Option, Some, None, option_map, option_and_then, Result, Ok, Err, if◌then◌else◌, nat_le, nat_lt, codes}
use Rattle.std.specs.Fmt.{decimal, signed_decimal}
use Rattle.std.specs.List.{position_or_len, before_first, after_first}
use Rattle.yp_base.specs.Types.{same_text, is_among, is_short}
use Rattle.yp_value.specs.declared.text.TextFault.{TextFault}
use Rattle.yp_value.specs.declared.text.TextFault.TheVariants.{BadText, Memory}
use Rattle.yp_base.specs.declared.atom.Atom.{Atom}
use Rattle.yp_base.specs.declared.atom.Atom.TheVariants.{Bool as Truth, Int, Uint, Dec, Text}
use Rattle.yp_base.specs.declared.leaf_type.LeafType.{LeafType}
use Rattle.yp_base.specs.declared.leaf_type.LeafType.TheVariants.{Bool as TruthType, Int as IntType, Uint as UintType, Dec as DecType, Text as TextType, Names, Empty}

-- an answer is what is read, and the fault comes where nothing is; where memory ran out nothing is said
abbrev pub ReadsAs : {X : Type 0} → Result X TextFault → Option X → Type 0
ReadsAs (Ok x) read = read ≡ Some x
ReadsAs (Err BadText) read = read ≡ None
ReadsAs (Err Memory) read = Unit {0}

abbrev pub is_digit : ℕ → Bool
is_digit byte = nat_le 48 byte && nat_le byte 57

-- the number that digits spell behind another
abbrev pub value_from : ℕ → List ℕ → Option ℕ
value_from n [] = Some n
value_from n (byte ∷ bytes) = if is_digit byte then value_from (n * 10 + (byte - 48)) bytes else None

-- a number where it is below a limit
abbrev pub below : ℕ → ℕ → Option ℕ
below limit n = if nat_lt n limit then Some n else None

-- the number that one or more digits spell
abbrev pub magnitude_in : List ℕ → Option ℕ
magnitude_in [] = None
magnitude_in (byte ∷ bytes) = value_from 0 (byte ∷ bytes)

-- whether a minus stands first, and what follows the sign, if there is one
abbrev pub cut_sign : List ℕ → Bool × List ℕ
cut_sign [] = (false, [])
cut_sign (byte ∷ bytes) = if byte == 45 then (true, bytes) else (if byte == 43 then (false, bytes) else (false, byte ∷ bytes))

-- a number with its sign, from -low to high
abbrev pub signed_in : ℕ → ℕ → Bool → ℕ → Option ℤ
signed_in low high true n = if nat_le n low then Some (neg_ℤ (pos n)) else None
signed_in low high false n = if nat_le n high then Some (pos n) else None

-- a whole number from -low to high: an optional sign, and one or more digits (RFC 7950 section 9.2.1)
abbrev pub number_in : ℕ → ℕ → List ℕ → Option ℤ
number_in low high text = option_and_then (signed_in low high (cut_sign text).0) (magnitude_in (cut_sign text).1)

-- what a text has before its first point, and behind it where there is one
abbrev pub around_point : List ℕ → List ℕ × Option (List ℕ)
around_point text =
    if nat_lt (position_or_len (λ byte. byte == 46) text) (length text) then (before_first (λ byte. byte == 46) text, Some (after_first (λ byte. byte == 46) text)) else (text, None)

-- the units of digits around a point: the digits without it, filled up with zeros, are their number
abbrev pub units_in : ℕ → List ℕ → List ℕ → Option ℕ
units_in places whole part = option_and_then (λ n. value_from n (part ++ replicate (places - length part) 48)) (magnitude_in whole)

-- behind a point stand one to so many digits
abbrev pub units_around : ℕ → List ℕ × Option (List ℕ) → Option ℕ
units_around places (whole, None) = units_in places whole []
units_around places (whole, Some part) = if nat_lt 0 (length part) && nat_le (length part) places then units_in places whole part else None

abbrev pub decimal_at : ℕ → List ℕ × Option (List ℕ) → Option ℤ
decimal_at places (whole, part) = option_and_then (signed_in (2 ^ 63) (2 ^ 63 - 1) (cut_sign whole).0) (units_around places ((cut_sign whole).1, part))

-- the units of a decimal64: an optional sign, digits, and optionally a point with digits (RFC 7950 section 9.3.1)
abbrev pub decimal_in : ℕ → List ℕ → Option ℤ
decimal_in places text = decimal_at places (around_point text)

-- a boolean is `true` or `false` (RFC 7950 section 9.5.1)
abbrev pub truth_in : List ℕ → Option Bool
truth_in text = if same_text text (codes "true") then Some true else (if same_text text (codes "false") then Some false else None)

-- the value that a text is read as, by the type
abbrev pub atom_in : LeafType → List ℕ → Option Atom
atom_in TruthType text = option_map (λ truth. Truth truth) (truth_in text)
atom_in (IntType bits) text = option_map (λ n. Int n) (number_in (2 ^ (bits - 1)) (2 ^ (bits - 1) - 1) text)
atom_in (UintType bits) text = option_map (λ n. Uint (unsigned_abs n)) (number_in 0 (2 ^ bits - 1) text)
atom_in (DecType places) text = option_map (λ units. Dec places units) (decimal_in places text)
atom_in TextType text = if is_short text then Some (Text text) else None
atom_in (Names names) text = if is_among text names then Some (Text text) else None
atom_in Empty text = None

-- digits, with zeros in front where there are fewer than so many
abbrev pub filled_up : ℕ → List ℕ → List ℕ
filled_up count digits = replicate (count - length digits) 48 ++ digits

-- a zero in front of nothing but zeros goes with them
abbrev pub in_front_of_rest : ℕ → List ℕ → List ℕ
in_front_of_rest digit [] = if digit == 48 then [] else digit ∷ []
in_front_of_rest digit (next ∷ rest) = digit ∷ next ∷ rest

-- digits without the zeros at their end
abbrev pub without_end_zeros : List ℕ → List ℕ
without_end_zeros [] = []
without_end_zeros (digit ∷ digits) = in_front_of_rest digit (without_end_zeros digits)

-- the first digit stays, the others lose the zeros at their end
abbrev pub shortened : List ℕ → List ℕ
shortened [] = []
shortened (digit ∷ digits) = digit ∷ without_end_zeros digits

-- digits with a point before the last so many, of which those at the end that are zeros are left out but for one
abbrev pub with_point : ℕ → List ℕ → List ℕ
with_point places digits = take (length digits - places) digits ++ 46 ∷ shortened (drop (length digits - places) digits)

-- the canonical text of a magnitude in units (RFC 7950 section 9.3.2)
abbrev pub magnitude_text : ℕ → ℕ → List ℕ
magnitude_text units places = with_point places (filled_up (places + 1) (decimal units))

abbrev pub decimal_text : ℤ → ℕ → List ℕ
decimal_text (pos n) places = magnitude_text n places
decimal_text (negsuc n) places = 45 ∷ magnitude_text (suc n) places

-- the canonical text of a value; of a whole number its digits without a zero in front (RFC 7950 section 9.2.2)
abbrev pub atom_text : Atom → List ℕ
atom_text (Truth true) = codes "true"
atom_text (Truth false) = codes "false"
atom_text (Int n) = signed_decimal n
atom_text (Uint n) = decimal n
atom_text (Dec places units) = decimal_text units places
atom_text (Text text) = text

-- whether a number lies from -low to high
abbrev pub is_between : ℕ → ℕ → ℤ → Bool
is_between low high (pos n) = nat_le n high
is_between low high (negsuc n) = nat_le (suc n) low

abbrev pub fits_bool : Atom → Bool
fits_bool (Truth truth) = true
fits_bool other = false

abbrev pub fits_int : ℕ → Atom → Bool
fits_int bits (Int n) = is_between (2 ^ (bits - 1)) (2 ^ (bits - 1) - 1) n
fits_int bits other = false

abbrev pub fits_uint : ℕ → Atom → Bool
fits_uint bits (Uint n) = nat_le n (2 ^ bits - 1)
fits_uint bits other = false

abbrev pub fits_dec : ℕ → Atom → Bool
fits_dec places (Dec own units) = own == places && is_between (2 ^ 63) (2 ^ 63 - 1) units
fits_dec places other = false

abbrev pub fits_text : Atom → Bool
fits_text (Text text) = is_short text
fits_text other = false

abbrev pub fits_names : List (List ℕ) → Atom → Bool
fits_names names (Text text) = is_among text names
fits_names names other = false

-- whether an atom is a value of the type
abbrev pub fits : LeafType → Atom → Bool
fits TruthType atom = fits_bool atom
fits (IntType bits) atom = fits_int bits atom
fits (UintType bits) atom = fits_uint bits atom
fits (DecType places) atom = fits_dec places atom
fits TextType atom = fits_text atom
fits (Names names) atom = fits_names names atom
fits Empty atom = false

-- whether an atom can be written: a decimal has 1 to 18 places, a text at most 256 bytes
abbrev pub is_writable : Atom → Bool
is_writable (Dec places units) = nat_le 1 places && nat_le places 18
is_writable (Text text) = is_short text
is_writable other = true
