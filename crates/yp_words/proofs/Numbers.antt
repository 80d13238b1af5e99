-- The number of an option.
use Rattle.std.proofs.Common.{◌≡◌, ℕ, ◌^◌, ◌<◌, ◌&&◌, Bool, true, false, List, Option, Some, None, Result, Ok, Err, refl, ap, arith, nat_le, if◌then◌else◌}
use Rattle.std.proofs.lemmas.Bool.{leb-true, le-leb}
use Rattle.std.specs.Str.Parse.{ParsesUnsigned}
use Rattle.clap.specs.ValueTests.{accepts}
use Rattle.clap.specs.Words.{TriesOne}
use Rattle.clap.specs.declared.builder.value_parser.ValueParser.TheVariants as vp
use Rattle.clap.proofs.ValueTestLemmas.{accepts-Accepts, Accepts-accepts}
use Rattle.yp_words.specs.Words.{NumberOption, number_or_default, number_within}

-- a number, if it lies within bounds
abbrev pub if_within : ℕ → ℕ → ℕ → Option ℕ
if_within least most n = if nat_le least n && nat_le n most then Some n else None

-- a text that is read as a number is that number, if it lies within the bounds
number_ok : (E : Type 0) (least most : ℕ) (text : List ℕ) (n : ℕ) → ParsesUnsigned {E = E} 32 10 text (Ok n) → if_within least most n ≡ number_within least most text
number_ok E least most text n h = go (accepts false (vp.Unsigned least most) text) refl
  where
    out : (low high : Bool) → nat_le least n ≡ low → nat_le n most ≡ high → accepts false (vp.Unsigned least most) text ≡ false → if_within least most n ≡ None
    out false high low_is high_is is = rw low_is refl
    out true false low_is high_is is = rw (low_is, high_is) refl
    out true true low_is high_is is =
        let low = leb-true least n low_is in
        let high = leb-true n most high_is in
        let passes = Accepts-accepts false (vp.Unsigned least most) text (h.0.0, omega (arith, h.0.1), omega (arith, h.1, low), omega (arith, h.1, high)) in
        absurd cc

    go : (b : Bool) → accepts false (vp.Unsigned least most) text ≡ b → if_within least most n ≡ number_within least most text
    go false is = rw is (out (nat_le least n) (nat_le n most) refl refl is)
    go true is =
        let passed = accepts-Accepts false (vp.Unsigned least most) text is in
        let low : nat_le least n ≡ true = le-leb least n (omega (arith, h.1, passed.2)) in
        let high : nat_le n most ≡ true = le-leb n most (omega (arith, h.1, passed.3)) in
        rw (is, low, high) (ap (λ (k : ℕ). Some k) h.1)

-- a text that isn't read as one is none
number_err : {E : Type 0} (least most : ℕ) (text : List ℕ) (e : E) → most < 2 ^ 32 → ParsesUnsigned 32 10 text (Err e) → None ≡ number_within least most text
number_err least most text e fits h = go (accepts false (vp.Unsigned least most) text) refl
  where
    go : (b : Bool) → accepts false (vp.Unsigned least most) text ≡ b → None ≡ number_within least most text
    go false is = rw is refl
    go true is =
        let passed = accepts-Accepts false (vp.Unsigned least most) text is in
        absurd (h (passed.0, omega (arith, fits, passed.3)))

-- what is made of the answer of a getter is the number of the option
abbrev pub AnswersNumber : {E : Type 0} → NumberOption → Result (Option ℕ) E → Option ℕ → Type 0
AnswersNumber option (Ok (Some n)) said = if_within option.least option.most n ≡ said
AnswersNumber option (Ok None) said = Some option.default ≡ said
AnswersNumber option (Err e) said = None ≡ said

pub number_told : {E : Type 0} (G : List ℕ → Result ℕ E → Type 0) (option : NumberOption) (o : Option (List ℕ)) (r : Result (Option ℕ) E) → option.most < 2 ^ 32
    → ((t : List ℕ) (x : Result ℕ E) → G t x → ParsesUnsigned 32 10 t x)
    → (o ≡ None → r ≡ Ok None) → ((t : List ℕ) → o ≡ Some t → TriesOne G t r) → AnswersNumber option r (number_or_default option o)
number_told G option None (Ok (Some n)) fits only none value = let bad = none refl in cc
number_told G option None (Ok None) fits only none value = refl
number_told G option None (Err e) fits only none value = let bad = none refl in cc
number_told {E} G option (Some t) (Ok (Some n)) fits only none value = number_ok E option.least option.most t n (only t (Ok n) (value t refl))
number_told G option (Some t) (Ok None) fits only none value = absurd (value t refl)
number_told G option (Some t) (Err e) fits only none value = number_err option.least option.most t e fits (only t (Err e) (value t refl))
