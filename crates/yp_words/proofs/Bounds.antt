-- The numbers of good words lie within the bounds of their options.
use Rattle.std.proofs.Common.{◌≡◌, ℕ, ◌≤◌, Bool, true, false, List, Option, Some, None, Result, Ok, Err, refl, sym, subst, arith, ◌∙◌}
use Rattle.std.specs.Prelude.{IfOk}
use Rattle.std.specs.Str.Parse.{digits_value, without_leading_plus}
use Rattle.clap.specs.ValueTests.{accepts}
use Rattle.clap.specs.Words.{Row, Text, one_of}
use Rattle.clap.specs.declared.builder.value_parser.ValueParser.TheVariants as vp
use Rattle.clap.proofs.ValueTestLemmas.{accepts-Accepts}
use Rattle.yp_words.specs.declared.words.Mode.{Mode}
use Rattle.yp_words.specs.declared.words.Words.{Words}
use Rattle.yp_words.specs.declared.words.WordsFault.{WordsFault}
use Rattle.yp_words.specs.Answers.{ReadsWords}
use Rattle.yp_words.specs.Words.{NumberOption, mode_of_rows, number_of_rows, number_or_default, number_within, seed_option, size_option, words_of_rows, words_with, workers_option}

-- a number lies within the bounds of an option
abbrev pub IsWithin : NumberOption → ℕ → Type 0
IsWithin option n = (option.least ≤ n) × (n ≤ option.most)

number_bounds : (least most : ℕ) (text : Text) (n : ℕ) → number_within least most text ≡ Some n → (least ≤ n) × (n ≤ most)
number_bounds least most text n h = go (accepts false (vp.Unsigned least most) text) refl
  where
    go : (b : Bool) → accepts false (vp.Unsigned least most) text ≡ b → (least ≤ n) × (n ≤ most)
    go false is =
        let none : None ≡ Some n = rw is at h in
        absurd cc
    go true is =
        let passed = accepts-Accepts false (vp.Unsigned least most) text is in
        let some : Some (digits_value 10 (without_leading_plus text)) ≡ Some n = rw is at h in
        let same : digits_value 10 (without_leading_plus text) ≡ n = cc in
        (subst (λ (k : ℕ). least ≤ k) same passed.2, subst (λ (k : ℕ). k ≤ most) same passed.3)

option_bounds : (option : NumberOption) (value : Option Text) (n : ℕ) → IsWithin option option.default → number_or_default option value ≡ Some n → IsWithin option n
option_bounds option None n default h =
    let same : option.default ≡ n = cc in
    subst (λ (k : ℕ). IsWithin option k) same default
option_bounds option (Some text) n default h = number_bounds option.least option.most text n h

-- the numbers of words are those that they are made with
parts : (mode : Option Mode) (workers seed size : Option ℕ) (words : Words) → words_with mode workers seed size ≡ Some words → (workers ≡ Some words.workers) × (size ≡ Some words.size)
parts None workers seed size words h = absurd cc
parts (Some mode) None seed size words h = absurd cc
parts (Some mode) (Some workers) None size words h = absurd cc
parts (Some mode) (Some workers) (Some seed) None words h = absurd cc
parts (Some mode) (Some workers) (Some seed) (Some size) words h = (cc, cc)

bounds : (rows : List Row) (words : Words) → words_of_rows rows ≡ Some words → IsWithin workers_option words.workers × IsWithin size_option words.size
bounds rows words h =
    let made = parts (mode_of_rows rows) (number_of_rows workers_option rows) (number_of_rows seed_option rows) (number_of_rows size_option rows) words h in
    (option_bounds workers_option (one_of workers_option.name rows) words.workers (omega arith, omega arith) made.0, option_bounds size_option (one_of size_option.name rows) words.size (omega arith, omega arith) made.1)

pub bounds_told : (rows : List Row) (said : Option Words) (result : Result Words WordsFault) → said ≡ words_of_rows rows → ReadsWords result said
    → IfOk result (λ words. IsWithin workers_option words.workers × IsWithin size_option words.size)
bounds_told rows said (Ok words) is h = bounds rows words (sym is ∙ h)
bounds_told rows said (Err fault) is h = tt
