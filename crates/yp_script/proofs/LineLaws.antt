-- Where the first line of a text ends.
use Rattle.std.proofs.Common.{◌≡◌, ◌≢◌, ℕ, zero, suc, ◌+◌, ◌-◌, ◌<◌, ◌≤◌, min, cond, List, [], ◌∷◌, length, take, drop, get_or, refl, sym, ap, ◌∙◌, arith, inl, inr, length-drop}
use Rattle.std.proofs.lemmas.Bool.{ne_eqb, eq-eqb, cases_lt}
use Rattle.std.proofs.lemmas.List.{drop_all, take_all}
use Rattle.yp_base.specs.Cuts.{onto_first}
use Rattle.yp_script.specs.Lines.{pieces_of, without_feed}

-- the first piece ends behind the first line feed
pub first_piece : (bytes : List ℕ) (n : ℕ) → n < length bytes → ((k : ℕ) → k < n → get_or bytes k 0 ≢ 10) → get_or bytes n 0 ≡ 10 → pieces_of bytes ≡ take (suc n) bytes ∷ pieces_of (drop (suc n) bytes)
first_piece [] n within none found = absurd (omega arith)
first_piece (b ∷ bytes) zero within none found = ap (λ t. cond t ((10 ∷ []) ∷ pieces_of bytes) (onto_first b (pieces_of bytes))) (eq-eqb b 10 found) ∙ ap (λ x. (x ∷ []) ∷ pieces_of bytes) (sym found)
first_piece (b ∷ bytes) (suc n) within none found =
    ap (λ t. cond t ((10 ∷ []) ∷ pieces_of bytes) (onto_first b (pieces_of bytes))) (ne_eqb b 10 (none 0 (omega arith)))
    ∙ ap (onto_first b) (first_piece bytes n (omega arith) (λ k h. none (suc k) (omega arith)) found)

-- a text without a line feed is one piece
pub only_piece : (bytes : List ℕ) → 0 < length bytes → ((k : ℕ) → k < length bytes → get_or bytes k 0 ≢ 10) → pieces_of bytes ≡ bytes ∷ []
only_piece [] some none = absurd (omega arith)
only_piece (b ∷ []) some none = ap (λ t. cond t ((10 ∷ []) ∷ []) (onto_first b [])) (ne_eqb b 10 (none 0 (omega arith)))
only_piece (b ∷ c ∷ bytes) some none =
    ap (λ t. cond t ((10 ∷ []) ∷ pieces_of (c ∷ bytes)) (onto_first b (pieces_of (c ∷ bytes)))) (ne_eqb b 10 (none 0 (omega arith)))
    ∙ ap (onto_first b) (only_piece (c ∷ bytes) (omega arith) (λ k h. none (suc k) (omega arith)))

-- what stands before the first line feed is the line
pub line_of_piece : (bytes : List ℕ) (n : ℕ) → n < length bytes → ((k : ℕ) → k < n → get_or bytes k 0 ≢ 10) → get_or bytes n 0 ≡ 10 → without_feed (take (suc n) bytes) ≡ take n bytes
line_of_piece [] n within none found = absurd (omega arith)
line_of_piece (b ∷ bytes) zero within none found = ap (λ t. cond t [] (b ∷ [])) (eq-eqb b 10 found)
line_of_piece (b ∷ bytes) (suc n) within none found =
    ap (λ t. cond t [] (b ∷ without_feed (take (suc n) bytes))) (ne_eqb b 10 (none 0 (omega arith)))
    ∙ ap (λ xs. b ∷ xs) (line_of_piece bytes n (omega arith) (λ k h. none (suc k) (omega arith)) found)

pub line_of_all : (bytes : List ℕ) → ((k : ℕ) → k < length bytes → get_or bytes k 0 ≢ 10) → without_feed bytes ≡ bytes
line_of_all [] none = refl
line_of_all (b ∷ bytes) none =
    ap (λ t. cond t [] (b ∷ without_feed bytes)) (ne_eqb b 10 (none 0 (omega arith))) ∙ ap (λ xs. b ∷ xs) (line_of_all bytes (λ k h. none (suc k) (omega arith)))

-- the first line, and what stands behind it
pub record IsFirst (bytes line rest : List ℕ) : Type 0 where
  pub pieces : pieces_of bytes ≡ take (length bytes - length rest) bytes ∷ pieces_of rest
  pub text : line ≡ without_feed (take (length bytes - length rest) bytes)

pub first_cut : (bytes : List ℕ) (n m : ℕ) (line rest : List ℕ) → 0 < length bytes → ((k : ℕ) → k < n → get_or bytes k 0 ≢ 10) → (n < length bytes → get_or bytes n 0 ≡ 10) → n ≤ length bytes
    → m ≡ min (n + 1) (length bytes) → line ≡ take n bytes → rest ≡ drop m bytes → IsFirst bytes line rest
first_cut bytes n m line rest some none found within cut is_line is_rest =
    elim (cases_lt n (length bytes)) [
      | inl h ↦
          let past : m ≡ suc n = omega arith in
          let behind : rest ≡ drop (suc n) bytes = is_rest ∙ ap (λ k. drop k bytes) past in
          let many : length bytes - length rest ≡ suc n = omega (arith, ap length behind, length-drop (suc n) bytes) in
          record {
            pieces = first_piece bytes n h none (found h) ∙ (λ i. take (sym many i) bytes ∷ pieces_of (sym behind i));
            text = is_line ∙ sym (line_of_piece bytes n h none (found h)) ∙ ap (λ k. without_feed (take k bytes)) (sym many);
          }
      | inr h ↦
          let all : n ≡ length bytes = omega arith in
          let behind : rest ≡ [] = is_rest ∙ drop_all m bytes (omega arith) in
          let many : length bytes - length rest ≡ length bytes = omega (arith, ap length behind) in
          let whole : take (length bytes - length rest) bytes ≡ bytes = take_all (length bytes - length rest) bytes (omega (arith, many)) in
          let none_all : (k : ℕ) → k < length bytes → get_or bytes k 0 ≢ 10 = λ k h. none k (omega arith) in
          record {
            pieces = only_piece bytes some none_all ∙ (λ i. sym whole i ∷ pieces_of (sym behind i));
            text = is_line ∙ take_all n bytes (omega arith) ∙ sym (line_of_all bytes none_all) ∙ ap without_feed (sym whole);
          }
    ]
