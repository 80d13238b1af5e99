-- Escapes in the keys of a path (RFC 8040 section 3.5.3, RFC 3986 section 2.1).
use Rattle.std.specs.Prelude.{ℕ, ◌+◌, ◌/◌, ◌%◌, List, [], ◌∷◌, Bool, true, false, not, ◌||◌, ◌&&◌, ◌==◌, nat_le, nat_lt, if◌then◌else◌, Option, Some, None}
use Rattle.std.specs.List.{flat_map}
use Rattle.std.specs.Str.{is_utf8}
use Rattle.percent_encoding.specs.Percent.{percent_decode}

-- letters, digits, `-`, `.`, `_` and `~` stand for themselves
abbrev pub is_plain : ℕ → Bool
is_plain b = (nat_le 97 b && nat_le b 122) || (nat_le 65 b && nat_le b 90) || (nat_le 48 b && nat_le b 57) || b == 45 || b == 46 || b == 95 || b == 126

-- the hexadecimal digit of a number below 16, `0` to `9` and `A` to `F`
abbrev pub capital_digit : ℕ → ℕ
capital_digit n = if nat_lt n 10 then 48 + n else 55 + n

-- a byte as it stands in a key: itself, or `%` and its two hexadecimal digits
abbrev pub byte_text : ℕ → List ℕ
byte_text b = if is_plain b then b ∷ [] else 37 ∷ capital_digit (b / 16 % 16) ∷ capital_digit (b % 16) ∷ []

-- a text as it stands in a key
abbrev pub escaped : List ℕ → List ℕ
escaped text = flat_map byte_text text

-- a hexadecimal digit, in capitals or not
abbrev pub is_hexadecimal : ℕ → Bool
is_hexadecimal b = (nat_le 48 b && nat_le b 57) || (nat_le 65 b && nat_le b 70) || (nat_le 97 b && nat_le b 102)

abbrev pub begins_with_digits : List ℕ → Bool
begins_with_digits [] = false
begins_with_digits (b ∷ []) = false
begins_with_digits (b ∷ c ∷ bs) = is_hexadecimal b && is_hexadecimal c

-- whether after each `%` two hexadecimal digits stand
abbrev pub has_whole_escapes : List ℕ → Bool
has_whole_escapes [] = true
has_whole_escapes (b ∷ bs) = (not (b == 37) || begins_with_digits bs) && has_whole_escapes bs

-- the text that a key stands for, if its escapes are whole and make UTF-8
abbrev pub key_read : List ℕ → Option (List ℕ)
key_read key = if has_whole_escapes key && is_utf8 (percent_decode key) then Some (percent_decode key) else None
