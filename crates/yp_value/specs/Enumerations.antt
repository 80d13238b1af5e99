-- The names of an enumeration, put into byte order (RFC 7950 section 9.6 gives them none).
use Rattle.std.specs.Prelude.{ℕ, List, [], ◌∷◌, if◌then◌else◌}
use Rattle.std.specs.Cmp.Lexicographic.{slice_cmp}
use Rattle.std.specs.Ordering.{is_lt, nat_cmp}

-- the names with one more, put after those that come before it
abbrev pub put_name : List ℕ → List (List ℕ) → List (List ℕ)
put_name new [] = new ∷ []
put_name new (name ∷ names) = if is_lt (slice_cmp nat_cmp name new) then name ∷ put_name new names else new ∷ name ∷ names

-- each name put at its place
abbrev pub in_byte_order : List (List ℕ) → List (List ℕ)
in_byte_order [] = []
in_byte_order (name ∷ names) = put_name name (in_byte_order names)
