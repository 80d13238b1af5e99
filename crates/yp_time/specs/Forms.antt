-- Texts of fixed form: which bytes stand at which place, and the numbers that digits spell (RFC 3339 section 5.6).
use Rattle.std.specs.Prelude.{ℕ, ◌+◌, ◌-◌, ◌*◌, ◌/◌, ◌%◌, ◌==◌, Bool, false, if◌then◌else◌, List, [], ◌∷◌, Option, Some, None, get_or, length}
use Rattle.std.specs.Char.{is_ascii_digit}

-- in a form `d` (100) stands for any digit, and every other byte for itself
abbrev pub fits_place : ℕ → ℕ → Bool
fits_place place byte = if place == 100 then is_ascii_digit byte else place == byte

-- what follows a form that a text begins with
abbrev pub after_form : List ℕ → List ℕ → Option (List ℕ)
after_form [] text = Some text
after_form (place ∷ form) [] = None
after_form (place ∷ form) (byte ∷ text) = if fits_place place byte then after_form form text else None

-- nothing follows the form
abbrev pub is_nothing_more : Option (List ℕ) → Bool
is_nothing_more None = false
is_nothing_more (Some text) = length text == 0

-- the whole text has the form
abbrev pub has_form : List ℕ → List ℕ → Bool
has_form form text = is_nothing_more (after_form form text)

-- the number of the digit at a place
abbrev pub digit_at : List ℕ → ℕ → ℕ
digit_at text place = get_or text place 0 - 48

-- the number that two digits spell, the first of them at the place
abbrev pub pair_at : List ℕ → ℕ → ℕ
pair_at text place = digit_at text place * 10 + digit_at text (place + 1)

-- the number that the first four digits spell
abbrev pub leading_year : List ℕ → ℕ
leading_year text = pair_at text 0 * 100 + pair_at text 2

-- a number below 100 in two digits
abbrev pub pair_text : ℕ → List ℕ
pair_text n = (48 + n / 10) ∷ (48 + n % 10) ∷ []
