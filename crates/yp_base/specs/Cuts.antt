-- Texts cut at a byte.
use Rattle.std.specs.Prelude.{ℕ, List, [], ◌∷◌, Bool, false, ◌==◌, if◌then◌else◌}

-- a byte before the first text
abbrev pub onto_first : ℕ → List (List ℕ) → List (List ℕ)
onto_first b [] = (b ∷ []) ∷ []
onto_first b (text ∷ texts) = (b ∷ text) ∷ texts

-- what stands before, between and after the marks
abbrev pub cut : ℕ → List ℕ → List (List ℕ)
cut mark [] = [] ∷ []
cut mark (b ∷ bs) = if b == mark then [] ∷ cut mark bs else onto_first b (cut mark bs)

-- the pieces of a text, each of which ends with a mark; the last one may lack it
abbrev pub cut_after : ℕ → List ℕ → List (List ℕ)
cut_after mark [] = []
cut_after mark (b ∷ bs) = if b == mark then (mark ∷ []) ∷ cut_after mark bs else onto_first b (cut_after mark bs)

-- whether a text begins with this mark
abbrev pub begins : ℕ → List ℕ → Bool
begins mark [] = false
begins mark (b ∷ bs) = b == mark
