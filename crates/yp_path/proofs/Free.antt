use Rattle.std.proofs.Common.{◌≡◌, ℕ, ◌<◌, ◌+◌, ◌==◌, List, [], ◌∷◌, ◌++◌, length, take, drop, Bool, true, false, not, ◌&&◌, ◌||◌, refl, ap, ◌∙◌, arith}
use Rattle.std.proofs.lemmas.Bool.{and_parts, not-true}
use Rattle.std.specs.List.{position_or_len, before_first, after_first}
use Rattle.std.proofs.Math.Seq.{take-append_seam, drop-append-add, take-length}
use Rattle.yp_names.specs.Names.{is_name, go_on_name, goes_on_name, begins_name}
use Rattle.yp_base.specs.Cuts.{cut}
use Rattle.yp_path.specs.Grammar.{is_free}

pub position_free : (mark : ℕ) (xs : List ℕ) → is_free mark xs ≡ true → position_or_len (λ b. b == mark) xs ≡ length xs
position_free mark [] e = refl
position_free mark (b ∷ bs) e =
    let parts = and_parts (not (b == mark)) (is_free mark bs) e in
    let rest = position_free mark bs parts.1 in
    rw (not-true _ parts.0, rest) (omega arith)

pub position_at : (mark : ℕ) (xs ys : List ℕ) → is_free mark xs ≡ true → position_or_len (λ b. b == mark) (xs ++ mark ∷ ys) ≡ length xs
position_at mark [] ys e = let same : (mark == mark) ≡ true = grind arith in rw same refl
position_at mark (b ∷ bs) ys e =
    let parts = and_parts (not (b == mark)) (is_free mark bs) e in
    let rest = position_at mark bs ys parts.1 in
    rw (not-true _ parts.0, rest) (omega arith)

pub before_mark : (mark : ℕ) (xs ys : List ℕ) → is_free mark xs ≡ true → before_first (λ b. b == mark) (xs ++ mark ∷ ys) ≡ xs
before_mark mark xs ys e = ap (λ n. take n (xs ++ mark ∷ ys)) (position_at mark xs ys e) ∙ take-append_seam xs (mark ∷ ys)

pub after_mark : (mark : ℕ) (xs ys : List ℕ) → is_free mark xs ≡ true → after_first (λ b. b == mark) (xs ++ mark ∷ ys) ≡ ys
after_mark mark xs ys e = ap (λ n. drop (n + 1) (xs ++ mark ∷ ys)) (position_at mark xs ys e) ∙ drop-append-add xs (mark ∷ ys) 1

pub before_free : (mark : ℕ) (xs : List ℕ) → is_free mark xs ≡ true → before_first (λ b. b == mark) xs ≡ xs
before_free mark xs e = ap (λ n. take n xs) (position_free mark xs e) ∙ take-length xs

-- a mark stands in a text behind which and before which anything stands
pub position_inside : (mark : ℕ) (xs ys : List ℕ) → position_or_len (λ b. b == mark) (xs ++ mark ∷ ys) < length (xs ++ mark ∷ ys)
position_inside mark [] ys = let same : (mark == mark) ≡ true = grind arith in rw same (omega arith)
position_inside mark (b ∷ bs) ys = inside_at mark b (bs ++ mark ∷ ys) (b == mark) refl (position_inside mark bs ys)
  where
    inside_at : (mark b : ℕ) (bs : List ℕ) (t : Bool) → (b == mark) ≡ t → position_or_len (λ b. b == mark) bs < length bs → position_or_len (λ b. b == mark) (b ∷ bs) < length (b ∷ bs)
    inside_at mark b bs true is h = rw is (omega arith)
    inside_at mark b bs false is h = rw is (omega arith)

-- marks that no name holds
abbrev pub is_outside : ℕ → Bool
is_outside mark = mark == 58 || (mark == 47 || (mark == 61 || mark == 44))

outside_at : (mark b : ℕ) → is_outside mark ≡ true → goes_on_name b ≡ true → (b == mark) ≡ false
outside_at mark b out goes = grind (arith, out, goes)

pub free_go_on : (mark : ℕ) (text : List ℕ) → is_outside mark ≡ true → go_on_name text ≡ true → is_free mark text ≡ true
free_go_on mark [] out goes = refl
free_go_on mark (b ∷ bs) out goes =
    let parts = and_parts (goes_on_name b) (go_on_name bs) goes in
    rw (outside_at mark b out parts.0, free_go_on mark bs out parts.1) refl

pub free_name : (mark : ℕ) (text : List ℕ) → is_outside mark ≡ true → is_name text ≡ true → is_free mark text ≡ true
free_name mark [] out is = refl
free_name mark (b ∷ bs) out is =
    let parts = and_parts (begins_name b && go_on_name bs) _ is in
    let front = and_parts (begins_name b) (go_on_name bs) parts.0 in
    let goes : goes_on_name b ≡ true = rw front.0 refl in
    rw (outside_at mark b out goes, free_go_on mark bs out front.1) refl

pub free_append : (mark : ℕ) (xs ys : List ℕ) → is_free mark xs ≡ true → is_free mark ys ≡ true → is_free mark (xs ++ ys) ≡ true
free_append mark [] ys h k = k
free_append mark (x ∷ xs) ys h k =
    let parts = and_parts (not (x == mark)) (is_free mark xs) h in
    rw (parts.0, free_append mark xs ys parts.1 k) refl

pub cut_free : (mark : ℕ) (xs : List ℕ) → is_free mark xs ≡ true → cut mark xs ≡ xs ∷ []
cut_free mark [] e = refl
cut_free mark (b ∷ bs) e =
    let parts = and_parts (not (b == mark)) (is_free mark bs) e in
    rw (not-true _ parts.0, cut_free mark bs parts.1) refl

pub cut_at : (mark : ℕ) (xs ys : List ℕ) → is_free mark xs ≡ true → cut mark (xs ++ mark ∷ ys) ≡ xs ∷ cut mark ys
cut_at mark [] ys e = let same : (mark == mark) ≡ true = grind arith in rw same refl
cut_at mark (b ∷ bs) ys e =
    let parts = and_parts (not (b == mark)) (is_free mark bs) e in
    rw (not-true _ parts.0, cut_at mark bs ys parts.1) refl
