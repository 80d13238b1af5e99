use Rattle.std.proofs.Common.{◌≡◌, ℕ, ◌/◌, ◌%◌, ◌≤◌, List, [], ◌∷◌, Bool, true, false, not, ◌||◌, cond, refl, arith, nat_lt}
use Rattle.std.proofs.lemmas.Bool.{agree_below, agree_below_at}
use Rattle.percent_encoding.specs.AsciiSet.{contains, should_percent_encode}
use Rattle.percent_encoding.specs.Percent.{percent_encode, percent_encode_byte}
use Rattle.yp_path.specs.declared.escape.TheConstants.{ESCAPED}
use Rattle.yp_path.specs.Escapes.{is_plain, capital_digit, escaped}

agree : agree_below (contains ESCAPED) (λ b. not (is_plain b)) 128 ≡ true
agree = refl

past_ascii : (b : ℕ) → 128 ≤ b → is_plain b ≡ false
past_ascii b h = grind (arith, h)

same_choice : (b : ℕ) (t u : Bool) → t ≡ not u → cond t (percent_encode_byte b) (b ∷ []) ≡ cond u (b ∷ []) (37 ∷ capital_digit (b / 16 % 16) ∷ capital_digit (b % 16) ∷ [])
unfolding percent_encode_byte
same_choice b t true e = rw e refl
same_choice b t false e = rw e refl

escaped_at : (s : Bool) (b : ℕ) → nat_lt b 128 ≡ s → (not s || contains ESCAPED b) ≡ not (is_plain b)
escaped_at true b is = agree_below_at (contains ESCAPED) (λ b. not (is_plain b)) 128 b agree (grind (arith, is))
escaped_at false b is = rw (past_ascii b (grind (arith, is))) refl

pub escapes : (b : ℕ) → should_percent_encode ESCAPED b ≡ not (is_plain b)
unfolding should_percent_encode
escapes b = escaped_at (nat_lt b 128) b refl

-- the crate's escapes are those of the definition
pub escaped_is : (bs : List ℕ) → percent_encode ESCAPED bs ≡ escaped bs
unfolding percent_encode
escaped_is [] = refl
escaped_is (b ∷ bs) = rw (same_choice b (should_percent_encode ESCAPED b) (is_plain b) (escapes b), escaped_is bs) refl
