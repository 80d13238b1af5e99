-- What follows of names: the last name of a path, the names above it, and a name with a colon.
use Rattle.std.proofs.Common.{◌≡◌, ℕ, suc, ◌-◌, ◌<◌, ◌==◌, List, [], ◌∷◌, ◌++◌, length, take, Some, refl, sym, ap, ◌∙◌, arith}
use Rattle.std.specs.List.{slice_get, position_or_len, before_first, after_first}
use Rattle.std.proofs.lemmas.Bool.{eqb-true}
use Rattle.std.proofs.lemmas.List.Sums.{split_at_first, passes_at_first}
use Rattle.yp_names.specs.Names.{Names, front, last}

pub front_take : (path : Names) → take (length path - 1) path ≡ front path
front_take [] = refl
front_take (name ∷ []) = refl
front_take (name ∷ next ∷ names) =
    let one : length (name ∷ next ∷ names) - 1 ≡ suc (length (next ∷ names) - 1) = omega arith in
    ap (λ n. take n (name ∷ next ∷ names)) one ∙ ap (λ xs. name ∷ xs) (front_take (next ∷ names))

pub last_get : (path : Names) (name : List ℕ) → slice_get path (length path - 1) ≡ Some name → name ≡ last path
last_get [] name h = cc
last_get (one ∷ []) name h = cc
last_get (one ∷ next ∷ names) name h =
    let more : length (one ∷ next ∷ names) - 1 ≡ suc (length (next ∷ names) - 1) = omega arith in
    last_get (next ∷ names) name (sym (ap (λ n. slice_get (one ∷ next ∷ names) n) more) ∙ h)

pub front_append : (names : Names) (name : List ℕ) → front (names ++ name ∷ []) ≡ names
front_append [] name = refl
front_append (one ∷ []) name = refl
front_append (one ∷ next ∷ names) name = ap (λ xs. one ∷ xs) (front_append (next ∷ names) name)

pub last_append : (names : Names) (name : List ℕ) → last (names ++ name ∷ []) ≡ name
last_append [] name = refl
last_append (one ∷ []) name = refl
last_append (one ∷ next ∷ names) name = last_append (next ∷ names) name

pub last_is : (path above : Names) (name : List ℕ) → path ≡ above ++ name ∷ [] → name ≡ last path
last_is path above name is = sym (last_append above name) ∙ ap last (sym is)

-- a text that has a colon is what stands before the first, the colon, and what stands after it
pub colon_found : (name : List ℕ) → position_or_len (λ b. b == 58) name < length name → name ≡ before_first (λ b. b == 58) name ++ 58 ∷ after_first (λ b. b == 58) name
colon_found name h =
    split_at_first (λ b. b == 58) name 0 h ∙ ap (λ b. before_first (λ c. c == 58) name ++ b ∷ after_first (λ c. c == 58) name) (eqb-true _ _ (passes_at_first (λ b. b == 58) name 0 h))
