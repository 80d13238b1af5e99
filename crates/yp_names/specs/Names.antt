-- The names on the way to a node, and the paths of a part (RFC 7951 section 4).
use Rattle.std.specs.Prelude.{ℕ, ◌==◌, ◌&&◌, ◌||◌, List, [], ◌∷◌, length, Bool, true, false, nat_le, nat_lt, Option, Some, None, if◌then◌else◌}
use Rattle.std.specs.List.{position_or_len, before_first, after_first}
use Rattle.std.specs.Cmp.{IsTotalOrder}
use Rattle.std.specs.Cmp.Lexicographic.{slice_cmp}
use Rattle.std.specs.Ordering.{nat_cmp}
use Rattle.std.specs.declared.cmp.Ordering.{Ordering}
use Rattle.yp_base.specs.Cuts.{cut}
use Rattle.std.proofs.lemmas.Cmp.{nat_list_cmp_total, lists_total}

-- member forms, from the top downwards
abbrev pub Names : Type 0
Names = List (List ℕ)

-- by the bytes of each name, a front first: each node stands before those below it, and siblings stand in byte order
abbrev pub names_cmp : Names → Names → Ordering
names_cmp = slice_cmp (slice_cmp nat_cmp)

pub names_total : IsTotalOrder names_cmp
names_total = lists_total nat_list_cmp_total

-- the names above the last
abbrev pub front : Names → Names
front [] = []
front (name ∷ []) = []
front (name ∷ next ∷ names) = name ∷ front (next ∷ names)

abbrev pub last : Names → List ℕ
last [] = []
last (name ∷ []) = name
last (name ∷ next ∷ names) = last (next ∷ names)

-- nothing stands before the first `/`
abbrev pub rooted : Names → Option Names
rooted [] = None
rooted ([] ∷ []) = None
rooted ([] ∷ name ∷ names) = Some (name ∷ names)
rooted ((b ∷ bs) ∷ names) = None

-- the names of a path, `/` and member forms joined by `/`
abbrev pub names_in : List ℕ → Option Names
names_in text = rooted (cut 47 text)

-- what stands before the first `:` and behind it
abbrev pub around_colon : List ℕ → Option (List ℕ × List ℕ)
around_colon text =
    if nat_lt (position_or_len (λ b. b == 58) text) (length text) then Some (before_first (λ b. b == 58) text, after_first (λ b. b == 58) text) else None

-- ---- names of modules and nodes

abbrev pub is_letter : ℕ → Bool
is_letter b = (nat_le 97 b && nat_le b 122) || (nat_le 65 b && nat_le b 90)

-- a letter or `_`
abbrev pub begins_name : ℕ → Bool
begins_name b = is_letter b || b == 95

-- a letter, a digit, `_`, `-` or `.`
abbrev pub goes_on_name : ℕ → Bool
goes_on_name b = begins_name b || (nat_le 48 b && nat_le b 57) || b == 45 || b == 46

abbrev pub go_on_name : List ℕ → Bool
go_on_name [] = true
go_on_name (b ∷ bs) = goes_on_name b && go_on_name bs

abbrev pub is_identifier : List ℕ → Bool
is_identifier [] = false
is_identifier (b ∷ bs) = begins_name b && go_on_name bs

-- the name of a module or node: an identifier (RFC 7950 section 6.2) of at most 64 bytes
abbrev pub is_name : List ℕ → Bool
is_name text = is_identifier text && nat_le (length text) 64
