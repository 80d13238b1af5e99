-- The content of a JSON string in a UTF-8 text is UTF-8, also where it has escapes (RFC 8259 sections 7 and 8.1).
use Rattle.std.proofs.Common.{◌≡◌, ℕ, zero, suc, ◌+◌, ◌-◌, ◌*◌, ◌<◌, ◌≤◌, ◌&&◌, ◌||◌, ◌==◌, ⊎_elim, List, [], ◌∷◌, ◌++◌, length, get_or, Bool, true, false, cond, Option, Some, None, option_and_then, IfSome, IsUtf8, nat_lt, nat_le, refl, sym, ap, subst, ◌∙◌, append_assoc, append-nil, length-append, arith}
use Rattle.std.specs.Char.{is_digit, digit_value, encode_utf8}
use Rattle.std.proofs.lemmas.Bool.{and_parts, and_from, cases_lt, eqb-true, ltb-true, leb-true, le-leb, lt-ltb, le-ltb, ne_eqb}
use Rattle.std.proofs.lemmas.Str.{IsUtf8-append, IsUtf8-nil, IsUtf8-encode, IsUtf8-drop, IsCharBoundary-after_ascii, encode_ascii, inside_one, length-encode, len_utf8_bounds}
use lib.Utf8.{scalar, scalars, encode, encodes, low_scalar}
use Rattle.json.specs.Text.{code_unit, short_escape, is_high_surrogate, is_low_surrogate, surrogate_pair, plain, after_backslash, after_u, after_high, prepend, content}
use Rattle.json.proofs.Printed.Utf8.{IsUtf8-are_ascii}

-- ---- the first character of a text

one_ascii : (x : ℕ) → x < 128 → IsUtf8 (x ∷ [])
one_ascii x low = IsUtf8-are_ascii (x ∷ []) (and_from (nat_lt x 128) true (lt-ltb x 128 low) refl)

-- what follows an ASCII byte
pub after_ascii : (x : ℕ) (xs : List ℕ) → x < 128 → IsUtf8 (x ∷ xs) → IsUtf8 xs
after_ascii x xs low u = IsUtf8-drop (x ∷ xs) 1 u (IsCharBoundary-after_ascii (x ∷ xs) 0 u (omega arith) low)

record First (text : List ℕ) : Type 0 where
  char : ℕ
  rest : List ℕ
  is : scalar char ≡ true
  later : IsUtf8 rest
  parts : text ≡ encode char ++ rest

first_of : (cs : List ℕ) (x : ℕ) (xs : List ℕ) → scalars cs ≡ true → encodes cs ≡ x ∷ xs → First (x ∷ xs)
first_of [] x xs ok e = let no : [] ≡ x ∷ xs = e in cc
first_of (c ∷ cs) x xs ok e =
    let p = and_parts (scalar c) (scalars cs) ok in
    record { char = c; rest = encodes cs; is = p.0; later = (cs, (p.1, refl)); parts = sym e }

-- the bytes of a character that begins with no ASCII byte are no ASCII
abbrev AllHigh : List ℕ → Type 0
AllHigh ys = (k : ℕ) → k < length ys → 128 ≤ get_or ys k 0

first_byte : (c x : ℕ) (xs rest : List ℕ) → x ∷ xs ≡ encode c ++ rest → c < 128 → x ≡ c
first_byte c x xs rest e low =
    let same : x ∷ xs ≡ c ∷ rest = e ∙ ap (λ (l : List ℕ). l ++ rest) (encode_ascii c low) in
    ap (λ (l : List ℕ). get_or l 0 0) same

high_bytes : (c x : ℕ) (xs rest : List ℕ) → x ∷ xs ≡ encode c ++ rest → 128 ≤ x → AllHigh (encode c)
high_bytes c x xs rest e high k below =
    ⊎_elim
    (λ low.
    let same : c ≡ get_or (encode c) k 0 = inside_one c [] (encode c) k (sym (append-nil (encode c))) below low in
    let small : c < 128 = omega (arith, same, low) in
    absurd (omega (arith, first_byte c x xs rest e small, small, high)))
    (λ h. h) (cases_lt (get_or (encode c) k 0) 128)

twice : (front back : List ℕ) (o : Option (List ℕ)) → prepend front (prepend back o) ≡ prepend (front ++ back) o
twice front back None = refl
twice front back (Some s) = ap (λ (l : List ℕ). Some l) (sym (append_assoc front back s))

nothing_more : (o : Option (List ℕ)) → prepend [] o ≡ o
nothing_more None = refl
nothing_more (Some s) = refl

-- bytes that are no ASCII stand for themselves
high_content : (ys rest : List ℕ) → AllHigh ys → content plain (ys ++ rest) ≡ prepend ys (content plain rest)
unfolding content
high_content [] rest high = sym (nothing_more (content plain rest))
high_content (y ∷ ys) rest high =
    let h : 128 ≤ y = high 0 (omega arith) in
    (λ i. cond (ne_eqb y 34 (λ e. omega arith) i) (Some []) (cond (ne_eqb y 92 (λ e. omega arith) i) (content after_backslash (ys ++ rest))
    (cond (le-ltb y 32 (omega arith) i) None (prepend (y ∷ []) (content plain (ys ++ rest))))))
    ∙ ap (prepend (y ∷ [])) (high_content ys rest (λ k below. high (suc k) (omega arith)))
    ∙ twice (y ∷ []) ys (content plain rest)

-- ---- escapes

prepended : (front : List ℕ) (o : Option (List ℕ)) → IsUtf8 front → IfSome o IsUtf8 → IfSome (prepend front o) IsUtf8
prepended front None u h = tt
prepended front (Some s) u h = IsUtf8-append front s u h

-- a byte that is one of the tests of a chain, and what it stands for
abbrev AreLow : ℕ → ℕ → Type 0
AreLow y c = (y < 128) × (c < 128)

one_of : (b : Bool) (y k : ℕ) (rest : Option ℕ) (c : ℕ) → (b ≡ true → AreLow y k) → (rest ≡ Some c → AreLow y c) → cond b (Some k) rest ≡ Some c → AreLow y c
one_of true y k rest c here later e = let same : k ≡ c = cc in subst (AreLow y) same (here refl)
one_of false y k rest c here later e = later e

is_low : (y n k : ℕ) → n < 128 → k < 128 → (y == n) ≡ true → AreLow y k
is_low y n k low small e = let same : y ≡ n = eqb-true y n e in (omega (arith, same, low), small)

itself_low : (a b c : Bool) (y : ℕ) → (a ≡ true → y < 128) → (b ≡ true → y < 128) → (c ≡ true → y < 128) → (a || b || c) ≡ true → AreLow y y
itself_low true b c y h i j e = (h refl, h refl)
itself_low false true c y h i j e = (i refl, i refl)
itself_low false false true y h i j e = (j refl, j refl)
itself_low false false false y h i j e = let no : false ≡ true = e in cc

tested : (y n : ℕ) → n < 128 → (y == n) ≡ true → y < 128
tested y n low e = let same : y ≡ n = eqb-true y n e in omega (arith, same, low)

escape_low : (y c : ℕ) → short_escape y ≡ Some c → AreLow y c
unfolding short_escape
escape_low y c e =
    one_of ((y == 34) || (y == 92) || (y == 47)) y y (cond (y == 98) (Some 8) (cond (y == 102) (Some 12) (cond (y == 110) (Some 10) (cond (y == 114) (Some 13) (cond (y == 116) (Some 9) None))))) c
    (itself_low (y == 34) (y == 92) (y == 47) y (tested y 34 (omega arith)) (tested y 92 (omega arith)) (tested y 47 (omega arith)))
    (one_of (y == 98) y 8 (cond (y == 102) (Some 12) (cond (y == 110) (Some 10) (cond (y == 114) (Some 13) (cond (y == 116) (Some 9) None)))) c (is_low y 98 8 (omega arith) (omega arith))
    (one_of (y == 102) y 12 (cond (y == 110) (Some 10) (cond (y == 114) (Some 13) (cond (y == 116) (Some 9) None))) c (is_low y 102 12 (omega arith) (omega arith))
    (one_of (y == 110) y 10 (cond (y == 114) (Some 13) (cond (y == 116) (Some 9) None)) c (is_low y 110 10 (omega arith) (omega arith))
    (one_of (y == 114) y 13 (cond (y == 116) (Some 9) None) c (is_low y 114 13 (omega arith) (omega arith))
    (one_of (y == 116) y 9 None c (is_low y 116 9 (omega arith) (omega arith)) (λ no. cc)))))) e

-- ---- code units

past_letters : (c : ℕ) → 123 ≤ c → is_digit c 16 ≡ false
past_letters c h =
    λ i. nat_lt (cond (le-ltb c 48 (omega arith) i) 36 (cond (le-ltb c 58 (omega arith) i) (c - 48) (cond (le-ltb c 65 (omega arith) i) 36 (cond (le-ltb c 91 (omega arith) i) (c - 55)
    (cond (le-ltb c 97 (omega arith) i) 36 (cond (le-ltb c 123 h i) (c - 87) 36)))))) 16

digit_low : (c : ℕ) → is_digit c 16 ≡ true → c < 128
digit_low c e = ⊎_elim (λ low. low) (λ high. let no : true ≡ false = sym e ∙ past_letters c (omega arith) in cc) (cases_lt c 128)

-- the four digits of a code unit, and its range
record IsUnit (a b c d u : ℕ) : Type 0 where
  first : a < 128
  second : b < 128
  third : c < 128
  fourth : d < 128
  fits : u < 65536

unit_at : (p q r s : Bool) (a b c d u : ℕ) → is_digit a 16 ≡ p → is_digit b 16 ≡ q → is_digit c 16 ≡ r → is_digit d 16 ≡ s
    → cond (p && q && r && s) (Some (digit_value a * 4096 + digit_value b * 256 + digit_value c * 16 + digit_value d)) None ≡ Some u → IsUnit a b c d u
unit_at true true true true a b c d u p q r s e =
    let i : digit_value a < 16 = ltb-true (digit_value a) 16 p in
    let j : digit_value b < 16 = ltb-true (digit_value b) 16 q in
    let k : digit_value c < 16 = ltb-true (digit_value c) 16 r in
    let l : digit_value d < 16 = ltb-true (digit_value d) 16 s in
    let same : digit_value a * 4096 + digit_value b * 256 + digit_value c * 16 + digit_value d ≡ u = cc in
    record { first = digit_low a p; second = digit_low b q; third = digit_low c r; fourth = digit_low d s; fits = small (digit_value a) (digit_value b) (digit_value c) (digit_value d) u i j k l same }
  where
    small : (v w x y u : ℕ) → v < 16 → w < 16 → x < 16 → y < 16 → v * 4096 + w * 256 + x * 16 + y ≡ u → u < 65536
    small v w x y u i j k l same = omega (arith, i, j, k, l, same)
unit_at true true true false a b c d u p q r s e = let no : None ≡ Some u = e in cc
unit_at true true false s a b c d u p q r t e = let no : None ≡ Some u = e in cc
unit_at true false r s a b c d u p q t v e = let no : None ≡ Some u = e in cc
unit_at false q r s a b c d u p t v w e = let no : None ≡ Some u = e in cc

unit_is : (a b c d u : ℕ) → code_unit a b c d ≡ Some u → IsUnit a b c d u
unfolding code_unit
unit_is a b c d u e = unit_at (is_digit a 16) (is_digit b 16) (is_digit c 16) (is_digit d 16) a b c d u refl refl refl refl e

high_scalar : (c : ℕ) → 57344 ≤ c → c < 1114112 → scalar c ≡ true
high_scalar c from to = (λ i. cond (le-ltb c 55296 (omega arith) i) true (nat_le 57344 c && nat_lt c 1114112)) ∙ and_from (nat_le 57344 c) (nat_lt c 1114112) (le-leb 57344 c from) (lt-ltb c 1114112 to)

-- a code unit that is no surrogate is a character
unit_scalar : (u : ℕ) → u < 65536 → is_high_surrogate u ≡ false → is_low_surrogate u ≡ false → scalar u ≡ true
unit_scalar u fits high low =
    ⊎_elim (λ below. low_scalar u below)
    (λ from.
    ⊎_elim
    (λ middle. let no : true ≡ false = sym (and_from (nat_le 55296 u) (nat_lt u 56320) (le-leb 55296 u from) (lt-ltb u 56320 middle)) ∙ high in cc)
    (λ upper.
    ⊎_elim
    (λ under. let no : true ≡ false = sym (and_from (nat_le 56320 u) (nat_lt u 57344) (le-leb 56320 u upper) (lt-ltb u 57344 under)) ∙ low in cc)
    (λ over. high_scalar u over (omega arith)) (cases_lt u 57344)) (cases_lt u 56320)) (cases_lt u 55296)

-- and so are two that are a pair
pair_scalar : (high low : ℕ) → is_high_surrogate high ≡ true → is_low_surrogate low ≡ true → scalar (surrogate_pair high low) ≡ true
pair_scalar high low h l =
    let p = and_parts (nat_le 55296 high) (nat_lt high 56320) h in
    let q = and_parts (nat_le 56320 low) (nat_lt low 57344) l in
    let a : 55296 ≤ high = leb-true 55296 high p.0 in
    let b : high < 56320 = ltb-true high 56320 p.1 in
    let c : 56320 ≤ low = leb-true 56320 low q.0 in
    let d : low < 57344 = ltb-true low 57344 q.1 in
    high_scalar (surrogate_pair high low) (omega (arith, a, b, c, d)) (omega (arith, a, b, c, d))

-- ---- the content

-- the content of shorter texts is UTF-8
abbrev Below : ℕ → Type 0
Below n = (xs : List ℕ) → length xs ≤ n → IsUtf8 xs → IfSome (content plain xs) IsUtf8

four_on : (a b c d : ℕ) (xs : List ℕ) → a < 128 → b < 128 → c < 128 → d < 128 → IsUtf8 (a ∷ b ∷ c ∷ d ∷ xs) → IsUtf8 xs
four_on a b c d xs i j k l u = after_ascii d xs l (after_ascii c (d ∷ xs) k (after_ascii b (c ∷ d ∷ xs) j (after_ascii a (b ∷ c ∷ d ∷ xs) i u)))

if_low : (b : Bool) (high l : ℕ) (xs : List ℕ) → is_high_surrogate high ≡ true → is_low_surrogate l ≡ b → IfSome (content plain xs) IsUtf8 → IfSome (cond b (prepend (encode_utf8 (surrogate_pair high l)) (content plain xs)) None) IsUtf8
if_low true high l xs h is u = prepended (encode (surrogate_pair high l)) (content plain xs) (IsUtf8-encode (surrogate_pair high l) (pair_scalar high l h is)) u
if_low false high l xs h is u = tt

low_half : (n high : ℕ) (ys : List ℕ) → Below n → is_high_surrogate high ≡ true → length ys ≤ n → IsUtf8 ys → IfSome (content (after_high high) ys) IsUtf8
unfolding content
low_half n high [] below h few u = tt
low_half n high (s ∷ []) below h few u = tt
low_half n high (s ∷ t ∷ []) below h few u = tt
low_half n high (s ∷ t ∷ a ∷ []) below h few u = tt
low_half n high (s ∷ t ∷ a ∷ b ∷ []) below h few u = tt
low_half n high (s ∷ t ∷ a ∷ b ∷ c ∷ []) below h few u = tt
low_half n high (s ∷ t ∷ a ∷ b ∷ c ∷ d ∷ xs) below h few u =
    let tail : Option (List ℕ) = option_and_then (λ l. cond (is_low_surrogate l) (prepend (encode_utf8 (surrogate_pair high l)) (content plain xs)) None) (code_unit a b c d) in
    both (s == 92) (t == 117) tail (λ is it.
    let rest = after_ascii t (a ∷ b ∷ c ∷ d ∷ xs) (tested t 117 (omega arith) it) (after_ascii s (t ∷ a ∷ b ∷ c ∷ d ∷ xs) (tested s 92 (omega arith) is) u) in
    elim (code_unit a b c d) as (λ (o : Option ℕ). code_unit a b c d ≡ o → IfSome (option_and_then (λ l. cond (is_low_surrogate l) (prepend (encode_utf8 (surrogate_pair high l)) (content plain xs)) None) o) IsUtf8) [
      | None ↦ λ e. tt
      | Some l ↦ λ e.
          let unit = unit_is a b c d l e in
          if_low (is_low_surrogate l) high l xs h refl (below xs (omega arith) (four_on a b c d xs unit.first unit.second unit.third unit.fourth rest))
    ] refl)
  where
    both : (p q : Bool) (o : Option (List ℕ)) → (p ≡ true → q ≡ true → IfSome o IsUtf8) → IfSome (cond (p && q) o None) IsUtf8
    both true true o each = each refl refl
    both true false o each = tt
    both false q o each = tt

unit_content : (n : ℕ) (ys : List ℕ) → Below n → length ys ≤ n → IsUtf8 ys → IfSome (content after_u ys) IsUtf8
unfolding content
unit_content n [] below few u = tt
unit_content n (a ∷ []) below few u = tt
unit_content n (a ∷ b ∷ []) below few u = tt
unit_content n (a ∷ b ∷ c ∷ []) below few u = tt
unit_content n (a ∷ b ∷ c ∷ d ∷ xs) below few u =
    elim (code_unit a b c d) as (λ (o : Option ℕ). code_unit a b c d ≡ o
    → IfSome (option_and_then (λ v. cond (is_high_surrogate v) (content (after_high v) xs) (cond (is_low_surrogate v) None (prepend (encode_utf8 v) (content plain xs)))) o) IsUtf8) [
      | None ↦ λ e. tt
      | Some v ↦ λ e.
          let unit = unit_is a b c d v e in
          let rest = four_on a b c d xs unit.first unit.second unit.third unit.fourth u in
          by_half (is_high_surrogate v) (is_low_surrogate v) v (content (after_high v) xs) (content plain xs) refl refl unit.fits (λ h. low_half n v xs below h (omega arith) rest) (below xs (omega arith) rest)
    ] refl
  where
    by_half : (h l : Bool) (v : ℕ) (pair alone : Option (List ℕ)) → is_high_surrogate v ≡ h → is_low_surrogate v ≡ l → v < 65536 → (is_high_surrogate v ≡ true → IfSome pair IsUtf8) → IfSome alone IsUtf8
        → IfSome (cond h pair (cond l None (prepend (encode_utf8 v) alone))) IsUtf8
    by_half true l v pair alone high low fits p a = p high
    by_half false true v pair alone high low fits p a = tt
    by_half false false v pair alone high low fits p a = prepended (encode v) alone (IsUtf8-encode v (unit_scalar v fits high low)) a

escaped : (n : ℕ) (ys : List ℕ) → Below n → length ys ≤ n → IsUtf8 ys → IfSome (content after_backslash ys) IsUtf8
unfolding content
escaped n [] below few u = tt
escaped n (y ∷ ys) below few u =
    by_letter (y == 117) (content after_u ys) (option_and_then (λ c. prepend (c ∷ []) (content plain ys)) (short_escape y))
    (λ is. unit_content n ys below (omega arith) (after_ascii y ys (tested y 117 (omega arith) is) u))
    (elim (short_escape y) as (λ (o : Option ℕ). short_escape y ≡ o → IfSome (option_and_then (λ c. prepend (c ∷ []) (content plain ys)) o) IsUtf8) [
      | None ↦ λ e. tt
      | Some c ↦ λ e. let low = escape_low y c e in prepended (c ∷ []) (content plain ys) (one_ascii c low.1) (below ys (omega arith) (after_ascii y ys low.0 u))
    ] refl)
  where
    by_letter : (b : Bool) (unit short : Option (List ℕ)) → (b ≡ true → IfSome unit IsUtf8) → IfSome short IsUtf8 → IfSome (cond b unit short) IsUtf8
    by_letter true unit short h k = h refl
    by_letter false unit short h k = k

by_byte : (q s l : Bool) (after rest : Option (List ℕ)) → (s ≡ true → IfSome after IsUtf8) → IfSome rest IsUtf8 → IfSome (cond q (Some []) (cond s after (cond l None rest))) IsUtf8
by_byte true s l after rest h k = IsUtf8-nil
by_byte false true l after rest h k = h refl
by_byte false false true after rest h k = tt
by_byte false false false after rest h k = k

shorter : (c x : ℕ) (xs rest : List ℕ) → x ∷ xs ≡ encode c ++ rest → length rest ≤ length xs
shorter c x xs rest e =
    let long : length (x ∷ xs) ≡ length (encode c ++ rest) = ap length e in
    omega (arith, long, length-append (encode c) rest, length-encode c, (len_utf8_bounds c).0)

plain_content : (n : ℕ) → Below n
unfolding content
plain_content zero [] few u = tt
plain_content zero (x ∷ xs) few u = absurd (omega arith)
plain_content (suc n) [] few u = tt
plain_content (suc n) (x ∷ xs) few u =
    ⊎_elim
    (λ low.
    let later = after_ascii x xs low u in
    by_byte (x == 34) (x == 92) (nat_lt x 32) (content after_backslash xs) (prepend (x ∷ []) (content plain xs)) (λ is. escaped n xs (plain_content n) (omega arith) later)
    (prepended (x ∷ []) (content plain xs) (one_ascii x low) (plain_content n xs (omega arith) later)))
    (λ high.
    let first = first_of u.0 x xs u.1.0 u.1.1 in
    let bytes = high_bytes first.char x xs first.rest first.parts high in
    subst (λ (o : Option (List ℕ)). IfSome o IsUtf8) (sym (ap (content plain) first.parts ∙ high_content (encode first.char) first.rest bytes))
    (prepended (encode first.char) (content plain first.rest) (IsUtf8-encode first.char first.is)
    (plain_content n first.rest (omega (arith, shorter first.char x xs first.rest first.parts)) first.later)))
    (cases_lt x 128)

-- the content of a string in a UTF-8 text
pub content_utf8 : (xs : List ℕ) → IsUtf8 xs → IfSome (content plain xs) IsUtf8
content_utf8 xs u = plain_content (length xs) xs (omega arith) u
