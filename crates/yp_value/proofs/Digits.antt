use Rattle.std.proofs.Common.{◌≡◌, ℕ, ◌<◌, ◌≤◌, ◌+◌, ◌-◌, ◌*◌, ◌^◌, List, [], ◌∷◌, Bool, true, false, Option, Some, None, cond, refl, ap, ◌∙◌, arith, nat_lt, option_and_then, zero, suc, length, drop, take, get_or, replicate, ◌++◌, ◌==◌}
use Rattle.std.specs.List.{position_or_len, before_first, after_first}
use Rattle.yp_value.specs.Texts.{is_digit, value_from, below, around_point, signed_in}
use Rattle.yp_value.specs.ReadAgain.{value_append}

too_big : (n : ℕ) → 2 ^ 64 ≤ n → below (2 ^ 64) n ≡ None
too_big n h = grind (arith, h)

past_at : (t : Bool) (n b : ℕ) (bs : List ℕ) → option_and_then (below (2 ^ 64)) (value_from (n * 10 + (b - 48)) bs) ≡ None → option_and_then (below (2 ^ 64)) (cond t (value_from (n * 10 + (b - 48)) bs) None) ≡ None
past_at true n b bs h = h
past_at false n b bs h = refl

-- a number that is too big stays so
past : (n : ℕ) (bs : List ℕ) → 2 ^ 64 ≤ n → option_and_then (below (2 ^ 64)) (value_from n bs) ≡ None
past n [] h = too_big n h
past n (b ∷ bs) h = past_at (is_digit b) n b bs (past (n * 10 + (b - 48)) bs (omega (arith, h)))

at_digit : (t : Bool) (n b : ℕ) (bs : List ℕ) (next : ℕ) → nat_lt n (2 ^ 64) ≡ t → cond t (Some n) None ≡ None → option_and_then (below (2 ^ 64)) (value_from n bs) ≡ None
at_digit true n b bs next is h = absurd (grind (arith, h))
at_digit false n b bs next is h = past n bs (grind (arith, is))

-- where one more digit isn't taken, nothing is read
not_read_at : (t : Bool) (n b : ℕ) (bs : List ℕ) → cond t (below (2 ^ 64) (n * 10 + (b - 48))) None ≡ None → option_and_then (below (2 ^ 64)) (cond t (value_from (n * 10 + (b - 48)) bs) None) ≡ None
not_read_at true n b bs h = at_digit (nat_lt (n * 10 + (b - 48)) (2 ^ 64)) (n * 10 + (b - 48)) b bs 0 refl h
not_read_at false n b bs h = refl

pub not_read : (n b : ℕ) (bs : List ℕ) → cond (is_digit b) (below (2 ^ 64) (n * 10 + (b - 48))) None ≡ None → option_and_then (below (2 ^ 64)) (value_from n (b ∷ bs)) ≡ None
not_read n b bs h = not_read_at (is_digit b) n b bs h

read_on_limit : (t : Bool) (n m : ℕ) (bs : List ℕ) → cond t (Some n) None ≡ Some m → value_from n bs ≡ value_from m bs
read_on_limit true n m bs h = ap (λ x. value_from x bs) (grind (arith, h))
read_on_limit false n m bs h = absurd (grind (arith, h))

read_on_at : (t : Bool) (n b m : ℕ) (bs : List ℕ) → cond t (below (2 ^ 64) (n * 10 + (b - 48))) None ≡ Some m → cond t (value_from (n * 10 + (b - 48)) bs) None ≡ value_from m bs
read_on_at true n b m bs h = read_on_limit (nat_lt (n * 10 + (b - 48)) (2 ^ 64)) (n * 10 + (b - 48)) m bs h
read_on_at false n b m bs h = absurd (grind (arith, h))

pub read_on : (n b m : ℕ) (bs : List ℕ) → cond (is_digit b) (below (2 ^ 64) (n * 10 + (b - 48))) None ≡ Some m → value_from n (b ∷ bs) ≡ value_from m bs
read_on n b m bs h = read_on_at (is_digit b) n b m bs h

pub read_out : (n : ℕ) → n < 2 ^ 64 → Some n ≡ below (2 ^ 64) n
read_out n h = grind (arith, h)

there : (i : ℕ) (bs : List ℕ) → i < length bs → (rest : List ℕ) × (drop i bs ≡ get_or bs i 0 ∷ rest)
there i [] h = absurd (omega arith)
there zero (b ∷ bs) h = (bs, refl)
there (suc i) (b ∷ bs) h = there i bs (omega arith)

pub stop_at : (n i : ℕ) (bs : List ℕ) → i < length bs → cond (is_digit (get_or bs i 0)) (below (2 ^ 64) (n * 10 + (get_or bs i 0 - 48))) None ≡ None → option_and_then (below (2 ^ 64)) (value_from n (drop i bs)) ≡ None
stop_at n i bs h none = let here = there i bs h in ap (λ (xs : List ℕ). option_and_then (below (2 ^ 64)) (value_from n xs)) here.1 ∙ not_read n (get_or bs i 0) here.0 none

-- ---- digits in pieces

stop_limit : (t : Bool) (n : ℕ) (more : List ℕ) → nat_lt n (2 ^ 64) ≡ t → cond t (Some n) None ≡ None → option_and_then (below (2 ^ 64)) (value_from n more) ≡ None
stop_limit true n more is h = absurd (grind (arith, h))
stop_limit false n more is h = past n more (grind (arith, is))

-- where a beginning isn't read, the whole isn't
pub stop_first : (o : Option ℕ) (more : List ℕ) → option_and_then (below (2 ^ 64)) o ≡ None → option_and_then (below (2 ^ 64)) (option_and_then (λ m. value_from m more) o) ≡ None
stop_first None more h = refl
stop_first (Some n) more h = stop_limit (nat_lt n (2 ^ 64)) n more refl h

-- where it is read, the rest goes on from it
pub go_on : (o : Option ℕ) (m : ℕ) (more : List ℕ) → option_and_then (below (2 ^ 64)) o ≡ Some m → option_and_then (λ n. value_from n more) o ≡ value_from m more
go_on None m more h = absurd (grind (arith, h))
go_on (Some n) m more h = read_on_limit (nat_lt n (2 ^ 64)) n m more h

pub none_part : (o : Option ℕ) (v : ℕ) (part zeros : List ℕ) → option_and_then (below (2 ^ 64)) o ≡ Some v → option_and_then (below (2 ^ 64)) (value_from v part) ≡ None
    → option_and_then (below (2 ^ 64)) (option_and_then (λ n. value_from n (part ++ zeros)) o) ≡ None
none_part o v part zeros first h = ap (option_and_then (below (2 ^ 64))) (go_on o v (part ++ zeros) first ∙ value_append v part zeros) ∙ stop_first (value_from v part) zeros h

pub all_parts : (o : Option ℕ) (v w : ℕ) (part zeros : List ℕ) → option_and_then (below (2 ^ 64)) o ≡ Some v → option_and_then (below (2 ^ 64)) (value_from v part) ≡ Some w
    → option_and_then (λ n. value_from n (part ++ zeros)) o ≡ value_from w zeros
all_parts o v w part zeros first second = go_on o v (part ++ zeros) first ∙ value_append v part zeros ∙ go_on (value_from v part) w zeros second

take_zeros : (k n : ℕ) → k ≤ n → take {A = ℕ} k (replicate n 48) ≡ replicate k 48
take_zeros zero n h = refl
take_zeros (suc k) zero h = absurd (omega arith)
take_zeros (suc k) (suc n) h = ap (λ (xs : List ℕ). 48 ∷ xs) (take_zeros k n (omega arith))

pub zeros_are : (k : ℕ) → k ≤ 18 → take {A = ℕ} k (replicate 18 48) ≡ replicate k 48
zeros_are k h = take_zeros k 18 h

point : ℕ → Bool
point b = b == 46

pub has_point : (text : List ℕ) → position_or_len (λ b. b == 46) text < length text → around_point text ≡ (before_first (λ b. b == 46) text, Some (after_first (λ b. b == 46) text))
has_point text h = let less : nat_lt (position_or_len (λ b. b == 46) text) (length text) ≡ true = grind (arith, h) in rw less refl

pub no_point : (text : List ℕ) → position_or_len (λ b. b == 46) text ≡ length text → around_point text ≡ (text, None)
no_point text h = let more : nat_lt (position_or_len (λ b. b == 46) text) (length text) ≡ false = grind (arith, h) in rw more refl

-- ---- numbers with a sign

capped_at : (t : Bool) (low high : ℕ) (negative : Bool) (n : ℕ) → nat_lt n (2 ^ 64) ≡ t → low < 2 ^ 64 → high < 2 ^ 64 → cond t (Some n) None ≡ None → option_and_then (signed_in low high negative) (Some n) ≡ None
capped_at true low high negative n is l h e = absurd (grind (arith, e))
capped_at false low high true n is l h e = grind (arith, is)
capped_at false low high false n is l h e = grind (arith, is)

-- a magnitude that isn't read is in no range
pub no_magnitude : (low high : ℕ) (negative : Bool) (o : Option ℕ) → low < 2 ^ 64 → high < 2 ^ 64 → option_and_then (below (2 ^ 64)) o ≡ None → option_and_then (signed_in low high negative) o ≡ None
no_magnitude low high negative None l h e = refl
no_magnitude low high negative (Some n) l h e = capped_at (nat_lt n (2 ^ 64)) low high negative n refl l h e

magnitude_limit : (t : Bool) (n m : ℕ) → cond t (Some n) None ≡ Some m → Some n ≡ Some m
magnitude_limit true n m e = e
magnitude_limit false n m e = absurd (grind (arith, e))

-- a magnitude that is read is the one
pub with_magnitude : (low high : ℕ) (negative : Bool) (o : Option ℕ) (m : ℕ) → option_and_then (below (2 ^ 64)) o ≡ Some m → option_and_then (signed_in low high negative) o ≡ signed_in low high negative m
with_magnitude low high negative None m e = absurd (grind (arith, e))
with_magnitude low high negative (Some n) m e = ap (option_and_then (signed_in low high negative)) (magnitude_limit (nat_lt n (2 ^ 64)) n m e)
