-- Bytes that stand for themselves in a JSON string.
use Rattle.std.proofs.Common.{◌≡◌, ℕ, List, [], ◌∷◌, ◌++◌, true, false, ◌==◌, nat_lt, refl, ap, ◌∙◌, arith}
use Rattle.std.specs.List.{list_all}
use Rattle.std.proofs.lemmas.Bool.{and_parts}
use Rattle.json.specs.Print.{escape, escape_byte, quoted}
use Rattle.yp_json_text.specs.Strings.{stands_for_itself}

plain_byte : (b : ℕ) → stands_for_itself b ≡ true → escape_byte b ≡ b ∷ []
unfolding escape_byte
plain_byte b h =
    let quote : (b == 34) ≡ false = grind (arith, h) in
    let slash : (b == 92) ≡ false = grind (arith, h) in
    let back : (b == 8) ≡ false = grind (arith, h) in
    let feed : (b == 12) ≡ false = grind (arith, h) in
    let line : (b == 10) ≡ false = grind (arith, h) in
    let turn : (b == 13) ≡ false = grind (arith, h) in
    let tab : (b == 9) ≡ false = grind (arith, h) in
    let high : nat_lt b 32 ≡ false = grind (arith, h) in
    rw (quote, slash, back, feed, line, turn, tab, high) refl

-- a text of such bytes has no escape
plain_text : (bs : List ℕ) → list_all stands_for_itself bs ≡ true → escape bs ≡ bs
plain_text [] h = refl
plain_text (b ∷ bs) h =
    let parts = and_parts (stands_for_itself b) (list_all stands_for_itself bs) h in
    ap (λ x. x ++ escape bs) (plain_byte b parts.0) ∙ ap (λ x. b ∷ x) (plain_text bs parts.1)

pub quoted_plain : (bs : List ℕ) → list_all stands_for_itself bs ≡ true → quoted bs ≡ 34 ∷ (bs ++ 34 ∷ [])
quoted_plain bs h = ap (λ x. 34 ∷ (x ++ 34 ∷ [])) (plain_text bs h)
