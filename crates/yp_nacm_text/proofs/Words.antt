-- The words of a text, from the first on.
use Rattle.std.proofs.Common.{◌≡◌, ℕ, ◌+◌, ◌<◌, ◌==◌, List, [], ◌∷◌, length, arith, length-drop}
use Rattle.std.specs.List.{position_or_len, before_first, after_first}
use Rattle.std.proofs.lemmas.List.Splits.{slice_split_first, slice_split_none}
use Rattle.std.proofs.lemmas.List.Sums.{fails_before_first}
use Rattle.yp_nacm_text.specs.Rules.{words_in}

pub one_word : (text : List ℕ) → position_or_len (λ b. b == 32) text ≡ length text → words_in text ≡ text ∷ []
one_word text all = slice_split_none (λ b. b == 32) text (λ k d within. fails_before_first (λ b. b == 32) text k d (omega (arith, all, within)))

pub more_words : (text : List ℕ) → position_or_len (λ b. b == 32) text < length text → words_in text ≡ before_first (λ b. b == 32) text ∷ words_in (after_first (λ b. b == 32) text)
more_words text some = slice_split_first (λ b. b == 32) text 0 some

pub rest_shorter : (text : List ℕ) → position_or_len (λ b. b == 32) text < length text → length (after_first (λ b. b == 32) text) < length text
rest_shorter text some = omega (arith, length-drop (position_or_len (λ b. b == 32) text + 1) text)
