-- A text in UTF-8 is bytes.
use Rattle.std.proofs.Common.{◌≡◌, ℕ, ◌<◌, ◌+◌, ◌/◌, List, [], ◌∷◌, Bool, true, false, cond, refl, subst, ⊎_elim, All, IsUtf8, arith, ltb}
use Rattle.std.specs.Str.{is_utf8}
use Rattle.std.proofs.Math.Utf8.{scalar, scalars, scalar_cases, next, encode, encodes}
use Rattle.std.proofs.lemmas.Bool.{ltb-true, and_parts}
use Rattle.std.proofs.lemmas.Str.{IsUtf8-from_is_utf8}
use Rattle.std.proofs.lemmas.List.Elements.{All-nil, All-cons, All-append}
use Rattle.percent_encoding.proofs.PercentLemmas.{IsByte}

one : (a : ℕ) → a < 256 → All IsByte (a ∷ [])
one a h = All-cons IsByte a [] h (All-nil IsByte)

two : (a b : ℕ) → a < 256 → b < 256 → All IsByte (a ∷ b ∷ [])
two a b h k = All-cons IsByte a (b ∷ []) h (one b k)

three : (a b c : ℕ) → a < 256 → b < 256 → c < 256 → All IsByte (a ∷ b ∷ c ∷ [])
three a b c h k l = All-cons IsByte a (b ∷ c ∷ []) h (two b c k l)

four : (a b c d : ℕ) → a < 256 → b < 256 → c < 256 → d < 256 → All IsByte (a ∷ b ∷ c ∷ d ∷ [])
four a b c d h k l m = All-cons IsByte a (b ∷ c ∷ d ∷ []) h (three b c d k l m)

encode_at : (s t u : Bool) (c : ℕ) → ltb c 128 ≡ s → ltb c 2048 ≡ t → ltb c 65536 ≡ u → c < 1114112
    → All IsByte (cond s (c ∷ []) (cond t ((192 + c / 64) ∷ next c ∷ []) (cond u ((224 + c / 4096) ∷ next (c / 64) ∷ next c ∷ []) ((240 + c / 262144) ∷ next (c / 4096) ∷ next (c / 64) ∷ next c ∷ []))))
encode_at true t u c is js ks h = let l = ltb-true c 128 is in one c (omega (arith, l))
encode_at false true u c is js ks h = let l = ltb-true c 2048 js in two (192 + c / 64) (next c) (omega (arith, l)) (omega arith)
encode_at false false true c is js ks h = let l = ltb-true c 65536 ks in three (224 + c / 4096) (next (c / 64)) (next c) (omega (arith, l)) (omega arith) (omega arith)
encode_at false false false c is js ks h = four (240 + c / 262144) (next (c / 4096)) (next (c / 64)) (next c) (omega (arith, h)) (omega arith) (omega arith) (omega arith)

encode_bytes : (c : ℕ) → c < 1114112 → All IsByte (encode c)
unfolding encode
encode_bytes c h = encode_at (ltb c 128) (ltb c 2048) (ltb c 65536) c refl refl refl h

scalar_low : (c : ℕ) → scalar c ≡ true → c < 1114112
scalar_low c e = ⊎_elim (λ l. omega (arith, l)) (λ l. l.1) (scalar_cases c e)

encodes_bytes : (cs : List ℕ) → scalars cs ≡ true → All IsByte (encodes cs)
encodes_bytes [] e = All-nil IsByte
encodes_bytes (c ∷ cs) e =
    let parts = and_parts (scalar c) (scalars cs) e in
    All-append IsByte (encode c) (encodes cs) (encode_bytes c (scalar_low c parts.0)) (encodes_bytes cs parts.1)

pub utf8_bytes : (bs : List ℕ) → is_utf8 bs ≡ true → All IsByte bs
utf8_bytes bs e =
    let u : IsUtf8 bs = IsUtf8-from_is_utf8 bs e in
    subst (All IsByte) u.1.1 (encodes_bytes u.0 u.1.0)
