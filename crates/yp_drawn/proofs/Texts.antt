-- Texts of JSON (RFC 8259) of plain strings and whole numbers: which bytes they have, and what they are read as, in whichever order the members of their objects stand.
use Rattle.std.proofs.Common.{◌≡◌, ℕ, ◌==◌, ◌≤◌, ◌<◌, ◌^◌, ◌&&◌, not, nat_le, nat_lt, Bool, true, false, true≢false, List, [], ◌∷◌, ◌++◌, Option, option_and_then, IsUtf8, decimal, refl, sym, ap, ap₂, ◌∙◌, append_assoc, append-nil, arith}
use Rattle.std.specs.List.{list_all}
use Rattle.std.specs.Str.Parse.{AllDigits}
use Rattle.std.proofs.lemmas.Bool.{and_parts, and_from, not-true, not_from_false, eqb-false, ne_eqb, leb-true, ltb-true, le-leb, lt-ltb}
use Rattle.std.proofs.lemmas.Fmt.{decimal_is_IsNumeral}
use Rattle.std.proofs.lemmas.List.Folds.{list_all-append}
use Rattle.std.proofs.lemmas.Str.Parse.{digit_from_value}
use Rattle.json.specs.Token.{Token}
use Rattle.json.specs.Lex.{tokens}
use Rattle.json.specs.Print.{escape_byte, escape, quoted}
use Rattle.json.specs.Json as json
use Rattle.json.specs.Tree as tree
use Rattle.json.proofs.Printed.Decimals.{IsNumber-decimal}
use Rattle.json.proofs.Printed.Strings.{escape_byte_plain}
use Rattle.json.proofs.Printed.Tokens.{tokens-print}
use Rattle.json.proofs.Printed.Trees.{value-json_tokens, ArePrintable-json_tokens}
use Rattle.json.proofs.Printed.Utf8.{are_ascii, IsUtf8-are_ascii}
use Rattle.serde_json.specs.Data.{Num, unsigned, negative, float, Data, null, boolean, number, string, array, object, Items, no_items, item, Members, no_members, member}
use Rattle.serde_json.specs.Read.{of_json, max_depth, read as read_text}
use Rattle.serde_json.specs.Written.{outline, items_outline, members_outline, comma_if, compact_text, items_text, members_text}
use Rattle.serde_json.proofs.Texts.{print-outline}

-- ---- bytes

-- a byte of printed ASCII
abbrev pub is_printed : ℕ → Bool
is_printed b = nat_le 32 b && nat_lt b 127

-- one that stands for itself in a string
abbrev pub is_plain : ℕ → Bool
is_plain b = is_printed b && (not (b == 34) && not (b == 92))

plain_byte : (b : ℕ) → is_plain b ≡ true → escape_byte b ≡ b ∷ []
plain_byte b h =
    let parts = and_parts (is_printed b) (not (b == 34) && not (b == 92)) h in
    let marks = and_parts (not (b == 34)) (not (b == 92)) parts.1 in
    escape_byte_plain b (eqb-false b 34 (not-true (b == 34) marks.0)) (eqb-false b 92 (not-true (b == 92) marks.1)) (leb-true 32 b (and_parts (nat_le 32 b) (nat_lt b 127) parts.0).0)

-- a plain text stands in a string as it is
plain_text : (text : List ℕ) → list_all is_plain text ≡ true → escape text ≡ text
plain_text [] h = refl
plain_text (b ∷ text) h = let parts = and_parts (is_plain b) (list_all is_plain text) h in ap₂ (λ (xs ys : List ℕ). xs ++ ys) (plain_byte b parts.0) (plain_text text parts.1)

plain_is_printed : (text : List ℕ) → list_all is_plain text ≡ true → list_all is_printed text ≡ true
plain_is_printed [] h = refl
plain_is_printed (b ∷ text) h =
    let parts = and_parts (is_plain b) (list_all is_plain text) h in
    and_from (is_printed b) (list_all is_printed text) (and_parts (is_printed b) (not (b == 34) && not (b == 92)) parts.0).0 (plain_is_printed text parts.1)

printed_is_ascii : (text : List ℕ) → list_all is_printed text ≡ true → are_ascii text ≡ true
printed_is_ascii [] h = refl
printed_is_ascii (b ∷ text) h =
    let parts = and_parts (is_printed b) (list_all is_printed text) h in
    let low : b < 127 = ltb-true b 127 (and_parts (nat_le 32 b) (nat_lt b 127) parts.0).1 in
    and_from (nat_lt b 128) (are_ascii text) (lt-ltb b 128 (omega arith)) (printed_is_ascii text parts.1)

pub printed_is_utf8 : (text : List ℕ) → list_all is_printed text ≡ true → IsUtf8 text
printed_is_utf8 text h = IsUtf8-are_ascii text (printed_is_ascii text h)

-- ---- numbers

digits_are_plain : (ds : List ℕ) → AllDigits 10 ds → list_all is_plain ds ≡ true
digits_are_plain [] h = refl
digits_are_plain (d ∷ ds) h =
    let range = digit_from_value d h.0 in
    let printed = and_from (nat_le 32 d) (nat_lt d 127) (le-leb 32 d (omega (arith, range))) (lt-ltb d 127 (omega (arith, range))) in
    let marks = and_from (not (d == 34)) (not (d == 92)) (not_from_false (d == 34) (ne_eqb d 34 (λ e. omega (arith, range)))) (not_from_false (d == 92) (ne_eqb d 92 (λ e. omega (arith, range)))) in
    and_from (is_plain d) (list_all is_plain ds) (and_from (is_printed d) (not (d == 34) && not (d == 92)) printed marks) (digits_are_plain ds h.1)

pub decimal_is_plain : (n : ℕ) → n < 2 ^ 64 → list_all is_plain (decimal n) ≡ true
decimal_is_plain n h = digits_are_plain (decimal n) (decimal_is_IsNumeral n h).0.1

-- ---- plain JSON

-- a whole number of 64 bits
abbrev is_whole : Num → Bool
is_whole (unsigned n) = nat_lt n (2 ^ 64)
is_whole (negative z) = false
is_whole (float x) = false

-- whole numbers, and strings and names that are plain
abbrev mutual
  pub is_plain_json : Data → Bool
  is_plain_json null = true
  is_plain_json (boolean b) = true
  is_plain_json (number n) = is_whole n
  is_plain_json (string s) = list_all is_plain s
  is_plain_json (array ds) = are_plain_items ds
  is_plain_json (object ms) = are_plain_members ms

  are_plain_items : Items → Bool
  are_plain_items no_items = true
  are_plain_items (item d ds) = is_plain_json d && are_plain_items ds

  are_plain_members : Members → Bool
  are_plain_members no_members = true
  are_plain_members (member k d ms) = list_all is_plain k && (is_plain_json d && are_plain_members ms)

numbers_of : (n : Num) → is_whole n ≡ true → tree.HasNumbers (outline (number n))
numbers_of (unsigned n) h = IsNumber-decimal n (ltb-true n (2 ^ 64) h)
numbers_of (negative z) h = absurd (true≢false (sym h))
numbers_of (float x) h = absurd (true≢false (sym h))

mutual
  has_numbers : (d : Data) → is_plain_json d ≡ true → tree.HasNumbers (outline d)
  has_numbers null h = tt
  has_numbers (boolean b) h = tt
  has_numbers (number n) h = numbers_of n h
  has_numbers (string s) h = tt
  has_numbers (array ds) h = items_have_numbers ds h
  has_numbers (object ms) h = members_have_numbers ms h

  items_have_numbers : (ds : Items) → are_plain_items ds ≡ true → tree.ItemsHaveNumbers (items_outline ds)
  items_have_numbers no_items h = tt
  items_have_numbers (item d ds) h = let parts = and_parts (is_plain_json d) (are_plain_items ds) h in (has_numbers d parts.0, items_have_numbers ds parts.1)

  members_have_numbers : (ms : Members) → are_plain_members ms ≡ true → tree.MembersHaveNumbers (members_outline ms)
  members_have_numbers no_members h = tt
  members_have_numbers (member k d ms) h =
      let parts = and_parts (list_all is_plain k) (is_plain_json d && are_plain_members ms) h in
      let values = and_parts (is_plain_json d) (are_plain_members ms) parts.1 in
      (has_numbers d values.0, members_have_numbers ms values.1)

-- ---- its text

abbrev truth_onto : Bool → List ℕ → List ℕ
truth_onto true rest = 116 ∷ 114 ∷ 117 ∷ 101 ∷ rest
truth_onto false rest = 102 ∷ 97 ∷ 108 ∷ 115 ∷ 101 ∷ rest

abbrev number_onto : Num → List ℕ → List ℕ
number_onto (unsigned n) rest = decimal n ++ rest
number_onto (negative z) rest = rest
number_onto (float x) rest = rest

-- the text of plain JSON before another text
abbrev mutual
  pub json_onto : Data → List ℕ → List ℕ
  json_onto null rest = 110 ∷ 117 ∷ 108 ∷ 108 ∷ rest
  json_onto (boolean b) rest = truth_onto b rest
  json_onto (number n) rest = number_onto n rest
  json_onto (string s) rest = 34 ∷ (s ++ 34 ∷ rest)
  json_onto (array ds) rest = 91 ∷ items_onto false ds rest
  json_onto (object ms) rest = 123 ∷ members_onto false ms rest

  items_onto : Bool → Items → List ℕ → List ℕ
  items_onto later no_items rest = 93 ∷ rest
  items_onto later (item d ds) rest = comma_if later ++ json_onto d (items_onto true ds rest)

  members_onto : Bool → Members → List ℕ → List ℕ
  members_onto later no_members rest = 125 ∷ rest
  members_onto later (member k d ms) rest = comma_if later ++ (34 ∷ (k ++ 34 ∷ 58 ∷ json_onto d (members_onto true ms rest)))

truth_text : (b : Bool) (rest : List ℕ) → compact_text (boolean b) ++ rest ≡ truth_onto b rest
truth_text true rest = refl
truth_text false rest = refl

number_text_onto : (n : Num) (rest : List ℕ) → is_whole n ≡ true → compact_text (number n) ++ rest ≡ number_onto n rest
number_text_onto (unsigned n) rest h = refl
number_text_onto (negative z) rest h = absurd (true≢false (sym h))
number_text_onto (float x) rest h = absurd (true≢false (sym h))

quoted_onto : (s rest : List ℕ) → list_all is_plain s ≡ true → quoted s ++ rest ≡ 34 ∷ (s ++ 34 ∷ rest)
quoted_onto s rest h = ap (λ (t : List ℕ). 34 ∷ ((t ++ 34 ∷ []) ++ rest)) (plain_text s h) ∙ ap (λ (t : List ℕ). 34 ∷ t) (append_assoc s (34 ∷ []) rest)

mutual
  pub text_onto : (d : Data) (rest : List ℕ) → is_plain_json d ≡ true → compact_text d ++ rest ≡ json_onto d rest
  text_onto null rest h = refl
  text_onto (boolean b) rest h = truth_text b rest
  text_onto (number n) rest h = number_text_onto n rest h
  text_onto (string s) rest h = quoted_onto s rest h
  text_onto (array ds) rest h = ap (λ (t : List ℕ). 91 ∷ t) (items_text_onto false ds rest h)
  text_onto (object ms) rest h = ap (λ (t : List ℕ). 123 ∷ t) (members_text_onto false ms rest h)

  items_text_onto : (later : Bool) (ds : Items) (rest : List ℕ) → are_plain_items ds ≡ true → items_text later ds ++ rest ≡ items_onto later ds rest
  items_text_onto later no_items rest h = refl
  items_text_onto later (item d ds) rest h =
      let parts = and_parts (is_plain_json d) (are_plain_items ds) h in
      append_assoc (comma_if later) (compact_text d ++ items_text true ds) rest
      ∙ ap (λ (t : List ℕ). comma_if later ++ t)
      (append_assoc (compact_text d) (items_text true ds) rest ∙ ap (λ (t : List ℕ). compact_text d ++ t) (items_text_onto true ds rest parts.1) ∙ text_onto d (items_onto true ds rest) parts.0)

  members_text_onto : (later : Bool) (ms : Members) (rest : List ℕ) → are_plain_members ms ≡ true → members_text later ms ++ rest ≡ members_onto later ms rest
  members_text_onto later no_members rest h = refl
  members_text_onto later (member k d ms) rest h =
      let parts = and_parts (list_all is_plain k) (is_plain_json d && are_plain_members ms) h in
      let values = and_parts (is_plain_json d) (are_plain_members ms) parts.1 in
      append_assoc (comma_if later) (quoted k ++ 58 ∷ (compact_text d ++ members_text true ms)) rest
      ∙ ap (λ (t : List ℕ). comma_if later ++ t)
      (append_assoc (quoted k) (58 ∷ (compact_text d ++ members_text true ms)) rest
      ∙ ap (λ (t : List ℕ). quoted k ++ 58 ∷ t)
      (append_assoc (compact_text d) (members_text true ms) rest ∙ ap (λ (t : List ℕ). compact_text d ++ t) (members_text_onto true ms rest values.1) ∙ text_onto d (members_onto true ms rest) values.0)
      ∙ quoted_onto k (58 ∷ json_onto d (members_onto true ms rest)) parts.0)

-- ---- its bytes

both_printed : (text rest : List ℕ) → list_all is_printed text ≡ true → list_all is_printed rest ≡ true → list_all is_printed (text ++ rest) ≡ true
both_printed text rest h more = list_all-append is_printed text rest ∙ and_from (list_all is_printed text) (list_all is_printed rest) h more

comma_printed : (later : Bool) (rest : List ℕ) → list_all is_printed rest ≡ true → list_all is_printed (comma_if later ++ rest) ≡ true
comma_printed true rest h = h
comma_printed false rest h = h

truth_printed : (b : Bool) (rest : List ℕ) → list_all is_printed rest ≡ true → list_all is_printed (truth_onto b rest) ≡ true
truth_printed true rest h = h
truth_printed false rest h = h

number_printed : (n : Num) (rest : List ℕ) → is_whole n ≡ true → list_all is_printed rest ≡ true → list_all is_printed (number_onto n rest) ≡ true
number_printed (unsigned n) rest h more = both_printed (decimal n) rest (plain_is_printed (decimal n) (decimal_is_plain n (ltb-true n (2 ^ 64) h))) more
number_printed (negative z) rest h more = more
number_printed (float x) rest h more = more

mutual
  printed_onto : (d : Data) (rest : List ℕ) → is_plain_json d ≡ true → list_all is_printed rest ≡ true → list_all is_printed (json_onto d rest) ≡ true
  printed_onto null rest h more = more
  printed_onto (boolean b) rest h more = truth_printed b rest more
  printed_onto (number n) rest h more = number_printed n rest h more
  printed_onto (string s) rest h more = both_printed s (34 ∷ rest) (plain_is_printed s h) more
  printed_onto (array ds) rest h more = items_printed false ds rest h more
  printed_onto (object ms) rest h more = members_printed false ms rest h more

  items_printed : (later : Bool) (ds : Items) (rest : List ℕ) → are_plain_items ds ≡ true → list_all is_printed rest ≡ true → list_all is_printed (items_onto later ds rest) ≡ true
  items_printed later no_items rest h more = more
  items_printed later (item d ds) rest h more =
      let parts = and_parts (is_plain_json d) (are_plain_items ds) h in
      comma_printed later (json_onto d (items_onto true ds rest)) (printed_onto d (items_onto true ds rest) parts.0 (items_printed true ds rest parts.1 more))

  members_printed : (later : Bool) (ms : Members) (rest : List ℕ) → are_plain_members ms ≡ true → list_all is_printed rest ≡ true → list_all is_printed (members_onto later ms rest) ≡ true
  members_printed later no_members rest h more = more
  members_printed later (member k d ms) rest h more =
      let parts = and_parts (list_all is_plain k) (is_plain_json d && are_plain_members ms) h in
      let values = and_parts (is_plain_json d) (are_plain_members ms) parts.1 in
      let after = json_onto d (members_onto true ms rest) in
      comma_printed later (34 ∷ (k ++ 34 ∷ 58 ∷ after))
      (both_printed k (34 ∷ 58 ∷ after) (plain_is_printed k parts.0) (printed_onto d (members_onto true ms rest) values.0 (members_printed true ms rest values.1 more)))

-- the text of plain JSON is printed ASCII
pub json_is_printed : (d : Data) → is_plain_json d ≡ true → list_all is_printed (compact_text d) ≡ true
json_is_printed d h = ap (list_all is_printed) (sym (append-nil (compact_text d)) ∙ text_onto d [] h) ∙ printed_onto d [] h refl

-- ---- what it is read as

-- the text of plain JSON is read as this JSON, with the members of each object in order
pub written_is_read : (d : Data) → is_plain_json d ≡ true → tree.depth (outline d) ≤ max_depth → read_text (compact_text d) ≡ of_json (outline d)
written_is_read d h shallow =
    let ts = tree.json_tokens (outline d) in
    let whole : Option (json.Json × List Token) → Option Data = λ o. option_and_then of_json (option_and_then (λ p. json.if_last p.0 p.1) o) in
    ap (λ us. whole (json.value max_depth us)) (ap tokens (sym (print-outline d)) ∙ tokens-print ts (ArePrintable-json_tokens (outline d) (has_numbers d h)) ∙ sym (append-nil ts))
    ∙ ap whole (value-json_tokens (outline d) max_depth [] shallow)
