use Rattle.std.proofs.Common.{◌≡◌, ℕ, suc, ◌<◌, ◌+◌, ◌==◌, List, [], ◌∷◌, ◌++◌, length, take, drop, Bool, true, false, not, Some, None, position, get_or, refl, sym, ap, ◌∙◌, arith, append_assoc}
use Rattle.std.specs.List.{position_or_len, before_first, after_first}
use Rattle.std.specs.Str.{IsUtf8, IsCharBoundary}
use Rattle.std.proofs.lemmas.Bool.{eqb-true}
use Rattle.std.proofs.lemmas.Grind.{common_steps}
use Rattle.std.proofs.lemmas.List.Quantifiers.{position-Some}
use Rattle.std.proofs.lemmas.List.Sums.{prefix_len-le-length}
use Rattle.std.proofs.lemmas.Str.{IsCharBoundary-before_ascii, IsCharBoundary-after_ascii}
use Rattle.yp_base.specs.Cuts.{cut}

abbrev is_mark : ℕ → ℕ → Bool
is_mark mark b = b == mark

found_at : (t : Bool) (mark b : ℕ) (bs : List ℕ) → (b == mark) ≡ t → position_or_len (is_mark mark) (b ∷ bs) < length (b ∷ bs)
    → (position_or_len (is_mark mark) bs < length bs → cut mark bs ≡ before_first (is_mark mark) bs ∷ cut mark (after_first (is_mark mark) bs))
    → cut mark (b ∷ bs) ≡ before_first (is_mark mark) (b ∷ bs) ∷ cut mark (after_first (is_mark mark) (b ∷ bs))
found_at true mark b bs is h later = rw is refl
found_at false mark b bs is h later =
    let one : position_or_len (is_mark mark) (b ∷ bs) ≡ 1 + position_or_len (is_mark mark) bs = rw is refl in
    let step : position_or_len (is_mark mark) (b ∷ bs) ≡ suc (position_or_len (is_mark mark) bs) = omega (arith, one) in
    let less : position_or_len (is_mark mark) bs < length bs = omega (arith, step, h) in
    let p = position_or_len (is_mark mark) bs in
    let next : 1 + p ≡ suc p = omega arith in
    let past : 1 + p + 1 ≡ suc (p + 1) = omega arith in
    let front : take (1 + p) (b ∷ bs) ≡ b ∷ take p bs = ap (λ n. take n (b ∷ bs)) next in
    let back : drop (1 + p + 1) (b ∷ bs) ≡ drop (p + 1) bs = ap (λ n. drop n (b ∷ bs)) past in
    rw (is, later less) (sym (ap (λ (x : List ℕ). x ∷ cut mark (drop (1 + p + 1) (b ∷ bs))) front ∙ ap (λ (x : List ℕ). (b ∷ take p bs) ∷ cut mark x) back))

pub cut_found : (mark : ℕ) (bs : List ℕ) → position_or_len (λ b. b == mark) bs < length bs → cut mark bs ≡ before_first (λ b. b == mark) bs ∷ cut mark (after_first (λ b. b == mark) bs)
cut_found mark [] h = absurd (omega arith)
cut_found mark (b ∷ bs) h = found_at (b == mark) mark b bs refl h (cut_found mark bs)

none_at : (t : Bool) (mark b : ℕ) (bs : List ℕ) → (b == mark) ≡ t → position_or_len (is_mark mark) (b ∷ bs) ≡ length (b ∷ bs)
    → (position_or_len (is_mark mark) bs ≡ length bs → cut mark bs ≡ bs ∷ []) → cut mark (b ∷ bs) ≡ (b ∷ bs) ∷ []
none_at true mark b bs is h later = let zero : position_or_len (is_mark mark) (b ∷ bs) ≡ 0 = rw is refl in absurd (omega (arith, zero, h))
none_at false mark b bs is h later =
    let one : position_or_len (is_mark mark) (b ∷ bs) ≡ 1 + position_or_len (is_mark mark) bs = rw is refl in
    let step : position_or_len (is_mark mark) (b ∷ bs) ≡ suc (position_or_len (is_mark mark) bs) = omega (arith, one) in
    rw (is, later (omega (arith, step, h))) refl

pub cut_none : (mark : ℕ) (bs : List ℕ) → position_or_len (λ b. b == mark) bs ≡ length bs → cut mark bs ≡ bs ∷ []
cut_none mark [] h = refl
cut_none mark (b ∷ bs) h = none_at (b == mark) mark b bs refl h (cut_none mark bs)

pub put_between : {X : Type 0} (done : List X) (x : X) (rest : List X) → (done ++ x ∷ []) ++ rest ≡ done ++ (x ∷ rest)
put_between done x rest = append_assoc done (x ∷ []) rest

pub no_place : (mark : ℕ) (bs : List ℕ) → position (λ b. b == mark) bs ≡ None → position_or_len (λ b. b == mark) bs ≡ length bs
no_place mark bs h = let within = prefix_len-le-length (λ b. not (b == mark)) bs in grind (arith, common_steps)

ascii_at : (mark : ℕ) (bs : List ℕ) (i : ℕ) → mark < 128 → position (λ b. b == mark) bs ≡ Some i → (i < length bs) × (get_or bs i 0 < 128)
ascii_at mark bs i small h =
    let found = position-Some (is_mark mark) bs i 0 h in
    let same : get_or bs i 0 ≡ mark = eqb-true _ _ found.1 in
    (found.0, omega (arith, same, small))

pub ends_before : (mark : ℕ) (bs : List ℕ) (i : ℕ) → mark < 128 → position (λ b. b == mark) bs ≡ Some i → IsCharBoundary bs i
ends_before mark bs i small h = let ascii = ascii_at mark bs i small h in IsCharBoundary-before_ascii bs i ascii.0 ascii.1

pub begins_behind : (mark : ℕ) (bs : List ℕ) (i : ℕ) → mark < 128 → IsUtf8 bs → position (λ b. b == mark) bs ≡ Some i → IsCharBoundary bs (i + 1)
begins_behind mark bs i small utf8 h = let ascii = ascii_at mark bs i small h in IsCharBoundary-after_ascii bs i utf8 ascii.0 ascii.1
