-- The types of leaves (RFC 7950 section 9).
use Rattle.std.specs.Prelude.{ℕ, List, [], ◌∷◌, length, Bool, true, false, not, ◌&&◌, ◌||◌, ◌==◌, nat_eq, nat_le}
use Rattle.std.specs.Cmp.Lexicographic.{pointwise, slice_cmp}
use Rattle.std.specs.Ordering.{is_lt, nat_cmp}
use Rattle.yp_base.specs.declared.leaf_type.LeafType.{LeafType}
use Rattle.yp_base.specs.declared.leaf_type.LeafType.TheVariants.{Bool as Truth, Int, Uint, Dec, Text, Names, Empty}

-- whether two texts are one
abbrev pub same_text : List ℕ → List ℕ → Bool
same_text a b = pointwise nat_eq a b

abbrev pub is_among : List ℕ → List (List ℕ) → Bool
is_among text [] = false
is_among text (other ∷ others) = same_text text other || is_among text others

abbrev pub are_distinct : List (List ℕ) → Bool
are_distinct [] = true
are_distinct (text ∷ texts) = not (is_among text texts) && are_distinct texts

-- whether each text comes before the next in byte order; so none stands twice
abbrev pub are_rising : List (List ℕ) → Bool
are_rising [] = true
are_rising (text ∷ []) = true
are_rising (text ∷ next ∷ texts) = is_lt (slice_cmp nat_cmp text next) && are_rising (next ∷ texts)

-- a text value has at most 256 bytes
abbrev pub is_short : List ℕ → Bool
is_short text = nat_le (length text) 256

abbrev pub are_short : List (List ℕ) → Bool
are_short [] = true
are_short (text ∷ texts) = is_short text && are_short texts

-- the names of an enumeration (RFC 7950 section 9.6), kept in byte order: one or more, rising and so distinct, none too long
abbrev pub are_names : List (List ℕ) → Bool
are_names [] = false
are_names (name ∷ names) = are_rising (name ∷ names) && are_short (name ∷ names)

abbrev pub is_width : ℕ → Bool
is_width bits = bits == 8 || bits == 16 || bits == 32 || bits == 64

-- whether it is a type: integers have 8, 16, 32 or 64 bits, decimals 1 to 18 fraction digits
abbrev pub is_type : LeafType → Bool
is_type Truth = true
is_type (Int bits) = is_width bits
is_type (Uint bits) = is_width bits
is_type (Dec places) = nat_le 1 places && nat_le places 18
is_type Text = true
is_type (Names names) = are_names names
is_type Empty = true

-- whether its values are atoms
abbrev pub has_atoms : LeafType → Bool
has_atoms Truth = true
has_atoms (Int bits) = true
has_atoms (Uint bits) = true
has_atoms (Dec places) = true
has_atoms Text = true
has_atoms (Names names) = true
has_atoms Empty = false
