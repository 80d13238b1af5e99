-- Keys without escapes stand for themselves.
use Rattle.std.proofs.Common.{◌≡◌, ◌≢◌, ℕ, zero, suc, ◌<◌, ◌≤◌, ◌+◌, ◌-◌, ◌==◌, cond, length-drop, List, [], ◌∷◌, length, take, drop, get_or, Bool, true, false, not, refl, sym, ap, ◌∙◌, arith, Some, IsUtf8, nat_lt}
use Rattle.std.specs.List.{position_or_len, count_by}
use Rattle.std.proofs.lemmas.Bool.{eqb-true, eq-eqb, ltb-true, ltb-false, and_parts, not-true}
use Rattle.std.proofs.lemmas.List.Recursion.{is_count_by}
use Rattle.std.proofs.lemmas.List.Sums.{passes_at_first}
use Rattle.std.proofs.lemmas.Str.{is_utf8-from_IsUtf8, IsUtf8-take, IsUtf8-drop, IsCharBoundary-before_ascii, IsCharBoundary-after_ascii}
use Rattle.percent_encoding.specs.Percent.{percent_decode}
use Rattle.percent_encoding.proofs.PercentLemmas.{percent_decode-nil, percent_decode_not_percent}
use Rattle.yp_base.specs.Cuts.{cut, onto_first}
use Rattle.yp_path.specs.Escapes.{has_whole_escapes, key_read}
use Rattle.yp_path.specs.Targets.{keys_read}
use Rattle.yp_path.proofs.Cuts.{cut_found, cut_none}
use Rattle.yp_path.specs.Grammar.{is_free}

free_at : (t : Bool) (mark b : ℕ) (bs : List ℕ) → (b == mark) ≡ t → position_or_len (λ b. b == mark) (b ∷ bs) ≡ length (b ∷ bs)
    → (position_or_len (λ b. b == mark) bs ≡ length bs → is_free mark bs ≡ true) → is_free mark (b ∷ bs) ≡ true
free_at true mark b bs is h later = let none : position_or_len (λ b. b == mark) (b ∷ bs) ≡ 0 = rw is refl in absurd (omega (arith, none, h))
free_at false mark b bs is h later =
    let one : position_or_len (λ b. b == mark) (b ∷ bs) ≡ 1 + position_or_len (λ b. b == mark) bs = rw is refl in
    rw (is, later (omega (arith, one, h))) refl

pub free_from : (mark : ℕ) (bs : List ℕ) → position_or_len (λ b. b == mark) bs ≡ length bs → is_free mark bs ≡ true
free_from mark [] h = refl
free_from mark (b ∷ bs) h = free_at (b == mark) mark b bs refl h (free_from mark bs)

within_at : (t : Bool) (mark b : ℕ) (bs : List ℕ) → (b == mark) ≡ t → position_or_len (λ b. b == mark) bs ≤ length bs → position_or_len (λ b. b == mark) (b ∷ bs) ≤ length (b ∷ bs)
within_at true mark b bs is h = rw is (omega arith)
within_at false mark b bs is h = rw is (omega (arith, h))

position_within : (mark : ℕ) (bs : List ℕ) → position_or_len (λ b. b == mark) bs ≤ length bs
position_within mark [] = omega arith
position_within mark (b ∷ bs) = within_at (b == mark) mark b bs refl (position_within mark bs)

take_free : (mark n : ℕ) (bs : List ℕ) → is_free mark bs ≡ true → is_free mark (take n bs) ≡ true
take_free mark zero bs e = refl
take_free mark (suc n) [] e = refl
take_free mark (suc n) (b ∷ bs) e = let parts = and_parts (not (b == mark)) (is_free mark bs) e in rw (parts.0, take_free mark n bs parts.1) refl

drop_free : (mark n : ℕ) (bs : List ℕ) → is_free mark bs ≡ true → is_free mark (drop n bs) ≡ true
drop_free mark zero bs e = e
drop_free mark (suc n) [] e = refl
drop_free mark (suc n) (b ∷ bs) e = drop_free mark n bs (and_parts (not (b == mark)) (is_free mark bs) e).1

whole_free : (bs : List ℕ) → is_free 37 bs ≡ true → has_whole_escapes bs ≡ true
whole_free [] e = refl
whole_free (b ∷ bs) e = let parts = and_parts (not (b == 37)) (is_free 37 bs) e in rw (parts.0, whole_free bs parts.1) refl

other : (b : ℕ) → not (b == 37) ≡ true → b ≢ 37
other b e same = let yes : (b == 37) ≡ true = eq-eqb b 37 same in let no : (b == 37) ≡ false = not-true _ e in cc

decoded_free : (bs : List ℕ) → is_free 37 bs ≡ true → percent_decode bs ≡ bs
decoded_free [] e = percent_decode-nil
decoded_free (b ∷ bs) e =
    let parts = and_parts (not (b == 37)) (is_free 37 bs) e in
    percent_decode_not_percent b bs (other b parts.0) ∙ ap (λ x. b ∷ x) (decoded_free bs parts.1)

-- a key without an escape is the text that it stands for
pub bare_key : (bs : List ℕ) → is_free 37 bs ≡ true → IsUtf8 bs → key_read bs ≡ Some bs
bare_key bs e u = rw (whole_free bs e, decoded_free bs e, is_utf8-from_IsUtf8 bs u) refl

one_key : (bs : List ℕ) → key_read bs ≡ Some bs → keys_read (bs ∷ []) ≡ Some (bs ∷ [])
one_key bs e = rw e refl

more_keys : (key : List ℕ) (keys : List (List ℕ)) → key_read key ≡ Some key → keys_read keys ≡ Some keys → keys_read (key ∷ keys) ≡ Some (key ∷ keys)
more_keys key keys first rest = rw (first, rest) refl

module _ (n : ℕ) (keys : List ℕ) (u : IsUtf8 keys) (e : is_free 37 keys ≡ true) where
  cut_at : (t : Bool) → nat_lt (position_or_len (λ b. b == 44) keys) (length keys) ≡ t
      → ((more : List ℕ) → length more < length keys → IsUtf8 more → is_free 37 more ≡ true → keys_read (cut 44 more) ≡ Some (cut 44 more))
      → keys_read (cut 44 keys) ≡ Some (cut 44 keys)
  cut_at true is later =
      let i = position_or_len (λ b. b == 44) keys in
      let inside : i < length keys = ltb-true _ _ is in
      let comma : get_or keys i 0 ≡ 44 = eqb-true _ _ (passes_at_first (λ b. b == 44) keys 0 inside) in
      let ascii : get_or keys i 0 < 128 = omega (arith, comma) in
      let front = bare_key (take i keys) (take_free 37 i keys e) (IsUtf8-take keys i u (IsCharBoundary-before_ascii keys i inside ascii)) in
      let shorter : length (drop (i + 1) keys) < length keys = simp length-drop (omega (arith, inside)) in
      let back = later (drop (i + 1) keys) shorter (IsUtf8-drop keys (i + 1) u (IsCharBoundary-after_ascii keys i u inside ascii)) (drop_free 37 (i + 1) keys e) in
      rw (cut_found 44 keys inside) (more_keys (take i keys) (cut 44 (drop (i + 1) keys)) front back)
  cut_at false is later =
      let past : length keys ≤ position_or_len (λ b. b == 44) keys = ltb-false _ _ is in
      let none : position_or_len (λ b. b == 44) keys ≡ length keys = omega (arith, past, position_within 44 keys) in
      rw (cut_none 44 keys none) (one_key keys (bare_key keys e u))

keys_below : (n : ℕ) (keys : List ℕ) → length keys < n → IsUtf8 keys → is_free 37 keys ≡ true → keys_read (cut 44 keys) ≡ Some (cut 44 keys)
keys_below zero keys h u e = absurd (omega (arith, h))
keys_below (suc n) keys h u e = cut_at n keys u e (nat_lt (position_or_len (λ b. b == 44) keys) (length keys)) refl (λ more less. keys_below n more (omega (arith, h, less)))

-- keys without an escape are the texts that they stand for
pub bare_keys : (keys : List ℕ) → IsUtf8 keys → position_or_len (λ b. b == 37) keys ≡ length keys → Some (cut 44 keys) ≡ keys_read (cut 44 keys)
bare_keys keys u e = sym (keys_below (suc (length keys)) keys (omega arith) u (free_from 37 keys e))

-- ---- how many keys there are

onto_some : (b : ℕ) (texts : List (List ℕ)) → 0 < length (onto_first b texts)
onto_some b [] = omega arith
onto_some b (text ∷ texts) = omega arith

some_at : (t : Bool) (mark b : ℕ) (bs : List ℕ) → (b == mark) ≡ t → 0 < length (cut mark (b ∷ bs))
some_at true mark b bs is = rw is (omega arith)
some_at false mark b bs is = rw is (onto_some b (cut mark bs))

cut_some : (mark : ℕ) (bs : List ℕ) → 0 < length (cut mark bs)
cut_some mark [] = omega arith
cut_some mark (b ∷ bs) = some_at (b == mark) mark b bs refl

as_long : (b : ℕ) (texts : List (List ℕ)) → 0 < length texts → length (onto_first b texts) ≡ length texts
as_long b [] h = absurd (omega (arith, h))
as_long b (text ∷ texts) h = refl

more_at : (t : Bool) (mark b : ℕ) (bs : List ℕ) → (b == mark) ≡ t → length (cut mark (b ∷ bs)) - 1 ≡ cond (b == mark) (1 + (length (cut mark bs) - 1)) (length (cut mark bs) - 1)
more_at true mark b bs is = rw is (omega (arith, cut_some mark bs))
more_at false mark b bs is = rw is (ap (λ n. n - 1) (as_long b (cut mark bs) (cut_some mark bs)))

-- one more than there are marks
pub counted : (mark : ℕ) (bs : List ℕ) → length (cut mark bs) ≡ count_by (λ b. b == mark) bs + 1
counted mark bs = omega (arith, cut_some mark bs, is_count_by (λ xs. length (cut mark xs) - 1) (λ b. b == mark) refl (λ b xs. more_at (b == mark) mark b xs refl) bs)
