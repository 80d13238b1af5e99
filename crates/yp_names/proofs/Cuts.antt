use Rattle.std.proofs.Common.{◌≡◌, ℕ, suc, ◌<◌, ◌+◌, ◌==◌, List, [], ◌∷◌, ◌++◌, length, take, drop, Bool, true, false, cond, Some, refl, sym, ap, ◌∙◌, arith, append_assoc}
use Rattle.std.specs.List.{position_or_len, before_first, after_first}
use Rattle.std.proofs.lemmas.Bool.{eqb-true}
use Rattle.yp_base.specs.Cuts.{cut, onto_first}
use Rattle.yp_names.specs.Names.{Names, rooted, names_in}

abbrev slash : ℕ → Bool
slash b = b == 47

found_at : (t : Bool) (b : ℕ) (bs : List ℕ) → (b == 47) ≡ t → position_or_len slash (b ∷ bs) < length (b ∷ bs)
    → (position_or_len slash bs < length bs → cut 47 bs ≡ before_first slash bs ∷ cut 47 (after_first slash bs))
    → cut 47 (b ∷ bs) ≡ before_first slash (b ∷ bs) ∷ cut 47 (after_first slash (b ∷ bs))
found_at true b bs is h later = rw is refl
found_at false b bs is h later =
    let one : position_or_len slash (b ∷ bs) ≡ 1 + position_or_len slash bs = rw is refl in
    let step : position_or_len slash (b ∷ bs) ≡ suc (position_or_len slash bs) = omega (arith, one) in
    let less : position_or_len slash bs < length bs = omega (arith, step, h) in
    let p = position_or_len slash bs in
    let next : 1 + p ≡ suc p = omega arith in
    let past : 1 + p + 1 ≡ suc (p + 1) = omega arith in
    let front : take (1 + p) (b ∷ bs) ≡ b ∷ take p bs = ap (λ n. take n (b ∷ bs)) next in
    let back : drop (1 + p + 1) (b ∷ bs) ≡ drop (p + 1) bs = ap (λ n. drop n (b ∷ bs)) past in
    rw (is, later less) (sym (ap (λ (x : List ℕ). x ∷ cut 47 (drop (1 + p + 1) (b ∷ bs))) front ∙ ap (λ (x : List ℕ). (b ∷ take p bs) ∷ cut 47 x) back))

pub cut_found : (bs : List ℕ) → position_or_len (λ b. b == 47) bs < length bs → cut 47 bs ≡ before_first (λ b. b == 47) bs ∷ cut 47 (after_first (λ b. b == 47) bs)
cut_found [] h = absurd (omega arith)
cut_found (b ∷ bs) h = found_at (b == 47) b bs refl h (cut_found bs)

none_at : (t : Bool) (b : ℕ) (bs : List ℕ) → (b == 47) ≡ t → position_or_len slash (b ∷ bs) ≡ length (b ∷ bs)
    → (position_or_len slash bs ≡ length bs → cut 47 bs ≡ bs ∷ []) → cut 47 (b ∷ bs) ≡ (b ∷ bs) ∷ []
none_at true b bs is h later = let zero : position_or_len slash (b ∷ bs) ≡ 0 = rw is refl in absurd (omega (arith, zero, h))
none_at false b bs is h later =
    let one : position_or_len slash (b ∷ bs) ≡ 1 + position_or_len slash bs = rw is refl in
    let step : position_or_len slash (b ∷ bs) ≡ suc (position_or_len slash bs) = omega (arith, one) in
    rw (is, later (omega (arith, step, h))) refl

pub cut_none : (bs : List ℕ) → position_or_len (λ b. b == 47) bs ≡ length bs → cut 47 bs ≡ bs ∷ []
cut_none [] h = refl
cut_none (b ∷ bs) h = none_at (b == 47) b bs refl h (cut_none bs)

pub put_between : (done : Names) (name : List ℕ) (rest : Names) → (done ++ name ∷ []) ++ rest ≡ done ++ (name ∷ rest)
put_between done name rest = append_assoc done (name ∷ []) rest

onto_some : (b : ℕ) (names : Names) → rooted ([] ∷ onto_first b names) ≡ Some (onto_first b names)
onto_some b [] = refl
onto_some b (name ∷ names) = refl

-- a text after a `/` is a path
pub cut_some : (bs : List ℕ) → rooted ([] ∷ cut 47 bs) ≡ Some (cut 47 bs)
cut_some [] = refl
cut_some (b ∷ bs) = elim (b == 47) as (λ t. rooted ([] ∷ cond t ([] ∷ cut 47 bs) (onto_first b (cut 47 bs))) ≡ Some (cond t ([] ∷ cut 47 bs) (onto_first b (cut 47 bs)))) [ true ↦ refl | false ↦ onto_some b (cut 47 bs) ]

pub no_text : (bs : List ℕ) (empty : Bool) → empty ≡ (length bs == 0) → empty ≡ true → bs ≡ []
no_text [] empty is h = refl
no_text (b ∷ bs) empty is h = absurd (omega (arith, eqb-true (length (b ∷ bs)) 0 (sym is ∙ h)))

-- where nothing stands before the first `/`, what follows it is a path
pub rooted_path : (text first rest : List ℕ) (names : Names) → first ≡ before_first (λ b. b == 47) text → rest ≡ after_first (λ b. b == 47) text → position_or_len (λ b. b == 47) text < length text
    → first ≡ [] → names ≡ cut 47 rest → Some names ≡ names_in text
rooted_path text first rest names before after within none is =
    ap Some is ∙ sym (cut_some rest) ∙ ap (λ (bs : List ℕ). rooted (bs ∷ cut 47 rest)) (sym none) ∙ (λ i. rooted (before i ∷ cut 47 (after i))) ∙ ap rooted (sym (cut_found text within))
