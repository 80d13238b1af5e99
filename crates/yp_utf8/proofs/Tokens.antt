-- The strings of JSON that is read of a UTF-8 text are UTF-8.
use Rattle.std.proofs.Common.{◌≡◌, ℕ, zero, suc, ◌+◌, ◌<◌, ◌==◌, List, [], ◌∷◌, ◌++◌, length, drop, get_or, Bool, true, false, cond, Less, Equal, Greater, Option, Some, None, option_map, option_and_then, IfSome, IsUtf8, nat_cmp, refl, sym, ap, subst, ◌∙◌, append_assoc, arith}
use Rattle.std.specs.Cmp.Lexicographic.{slice_cmp}
use Rattle.std.specs.List.{AllByRecursion}
use Rattle.std.specs.Ordering.{match_ordering}
use Rattle.std.proofs.lemmas.Bool.{eqb-true}
use Rattle.std.proofs.lemmas.Str.{IsUtf8-drop, IsCharBoundary-after_ascii}
use Rattle.json.specs.Ascii as ascii
use Rattle.json.specs.Json as json
use Rattle.json.specs.Lex.{Lexeme, token, comma, colon, Class, quote, backslash, operator, space, other, class, operator_lexeme, string_token, Mode, between, in_word, in_string, in_escape, lex_byte, lex}
use Rattle.json.specs.Lex.{Place, fresh, after_value, after_comma, after_key, begins_colon, may_begin, may_close, if_allowed, place_token, punctuate, tokens}
use Rattle.json.specs.Text.{content, plain}
use Rattle.json.specs.Token.{Token, begin_object, end_object, begin_array, end_array, key, string, number, boolean, null, bad}
use Rattle.json.specs.Word.{head, ends_word, after_number, number_before, literal, word, is_operator, is_space}
use Rattle.serde_json.specs.Data as values
use Rattle.serde_json.specs.Read.{number_of, of_json, of_items, of_members, max_depth, read}
use Rattle.yp_utf8.specs.Utf8.{HasUtf8, ItemsHaveUtf8, MembersHaveUtf8}
use Rattle.yp_utf8.proofs.Contents.{content_utf8}

-- ---- what follows an ASCII byte within a text

passed : (front : List ℕ) (x : ℕ) (xs : List ℕ) → drop (suc (length front)) (front ++ x ∷ xs) ≡ xs
passed [] x xs = refl
passed (f ∷ front) x xs = passed front x xs

byte_there : (front : List ℕ) (x : ℕ) (xs : List ℕ) → get_or (front ++ x ∷ xs) (length front) 0 ≡ x
byte_there [] x xs = refl
byte_there (f ∷ front) x xs = byte_there front x xs

within : (front : List ℕ) (x : ℕ) (xs : List ℕ) → length front < length (front ++ x ∷ xs)
within [] x xs = omega arith
within (f ∷ front) x xs = let more = within front x xs in omega (arith, more)

rest_utf8 : (front : List ℕ) (x : ℕ) (xs : List ℕ) → x < 128 → IsUtf8 (front ++ x ∷ xs) → IsUtf8 xs
rest_utf8 front x xs low u =
    let text = front ++ x ∷ xs in
    let small : get_or text (length front) 0 < 128 = omega (arith, byte_there front x xs, low) in
    let next : length front + 1 ≡ suc (length front) = omega arith in
    subst IsUtf8 (ap (λ n. drop n text) next ∙ passed front x xs)
    (IsUtf8-drop text (length front + 1) u (IsCharBoundary-after_ascii text (length front) u (within front x xs) small))

-- ---- tokens

-- a string is UTF-8
abbrev TokenIsUtf8 : Token → Type 0
TokenIsUtf8 begin_object = Unit {0}
TokenIsUtf8 end_object = Unit {0}
TokenIsUtf8 begin_array = Unit {0}
TokenIsUtf8 end_array = Unit {0}
TokenIsUtf8 (key s) = Unit {0}
TokenIsUtf8 (string s) = IsUtf8 s
TokenIsUtf8 (number s) = Unit {0}
TokenIsUtf8 (boolean b) = Unit {0}
TokenIsUtf8 null = Unit {0}
TokenIsUtf8 bad = Unit {0}

abbrev AllTokens : List Token → Type 0
AllTokens ts = AllByRecursion TokenIsUtf8 ts

either_token : (b : Bool) (one two : Token) → TokenIsUtf8 one → TokenIsUtf8 two → TokenIsUtf8 (cond b one two)
either_token true one two h k = h
either_token false one two h k = k

number_utf8 : (text : List ℕ) (o : Option (List ℕ)) → TokenIsUtf8 (number_before text o)
number_utf8 text None = tt
number_utf8 text (Some rest) = either_token (ends_word rest) (number _) bad tt tt

literal_utf8 : (name : List ℕ) (t : Token) (text : List ℕ) → TokenIsUtf8 t → TokenIsUtf8 (literal name t text)
literal_utf8 name t text h = either_token _ t bad h tt

word_utf8 : (text : List ℕ) → TokenIsUtf8 (word text)
unfolding word
word_utf8 text =
    let number_last : Token = number_before text (after_number text) in
    let null_next : Token = cond (head text == ascii.lower_n) (literal ascii.null_text null text) number_last in
    let false_next : Token = cond (head text == ascii.lower_f) (literal ascii.false_text (boolean false) text) null_next in
    either_token (head text == ascii.lower_t) (literal ascii.true_text (boolean true) text) false_next (literal_utf8 ascii.true_text (boolean true) text tt)
    (either_token (head text == ascii.lower_f) (literal ascii.false_text (boolean false) text) null_next (literal_utf8 ascii.false_text (boolean false) text tt)
    (either_token (head text == ascii.lower_n) (literal ascii.null_text null text) number_last (literal_utf8 ascii.null_text null text tt) (number_utf8 text (after_number text))))

abbrev LexemeIsUtf8 : Lexeme → Type 0
LexemeIsUtf8 (token t) = TokenIsUtf8 t
LexemeIsUtf8 comma = Unit {0}
LexemeIsUtf8 colon = Unit {0}

abbrev AllLexemes : List Lexeme → Type 0
AllLexemes ls = AllByRecursion LexemeIsUtf8 ls

either_lexeme : (b : Bool) (one two : Lexeme) → LexemeIsUtf8 one → LexemeIsUtf8 two → LexemeIsUtf8 (cond b one two)
either_lexeme true one two h k = h
either_lexeme false one two h k = k

operator_utf8 : (x : ℕ) → LexemeIsUtf8 (operator_lexeme x)
operator_utf8 x =
    either_lexeme (x == 123) (token begin_object) _ tt (either_lexeme (x == 125) (token end_object) _ tt (either_lexeme (x == 91) (token begin_array) _ tt (either_lexeme (x == 93) (token end_array) _ tt
    (either_lexeme (x == 44) comma colon tt tt))))

string_utf8 : (o : Option (List ℕ)) → IfSome o IsUtf8 → TokenIsUtf8 (string_token o)
string_utf8 None h = tt
string_utf8 (Some s) h = h

no_quote : (a b c : Bool) → cond a backslash (cond b operator (cond c space other)) ≡ quote → ⊥
no_quote true b c e = cc
no_quote false true c e = cc
no_quote false false true e = cc
no_quote false false false e = cc

quote_at : (b : Bool) (x : ℕ) → (x == 34) ≡ b → cond b quote (cond (x == 92) backslash (cond (is_operator x) operator (cond (is_space x) space other))) ≡ quote → x < 128
quote_at true x is e = let same : x ≡ 34 = eqb-true x 34 is in omega (arith, same)
quote_at false x is e = absurd (no_quote (x == 92) (is_operator x) (is_space x) e)

quote_low : (x : ℕ) → class x ≡ quote → x < 128
quote_low x e = quote_at (x == 34) x refl e

byte_utf8 : (m : Mode) (c : Class) (x : ℕ) (xs : List ℕ) (k : Mode → List Lexeme) → (c ≡ quote → IsUtf8 xs) → ((n : Mode) → AllLexemes (k n)) → AllLexemes (lex_byte m c x xs k)
byte_utf8 between quote x xs k u h = (string_utf8 (content plain xs) (content_utf8 xs (u refl)), h in_string)
byte_utf8 between backslash x xs k u h = (tt, h in_word)
byte_utf8 between operator x xs k u h = (operator_utf8 x, h between)
byte_utf8 between space x xs k u h = h between
byte_utf8 between other x xs k u h = (word_utf8 (x ∷ xs), h in_word)
byte_utf8 in_word quote x xs k u h = h in_word
byte_utf8 in_word backslash x xs k u h = h in_word
byte_utf8 in_word operator x xs k u h = (operator_utf8 x, h between)
byte_utf8 in_word space x xs k u h = h between
byte_utf8 in_word other x xs k u h = h in_word
byte_utf8 in_string quote x xs k u h = h between
byte_utf8 in_string backslash x xs k u h = h in_escape
byte_utf8 in_string operator x xs k u h = h in_string
byte_utf8 in_string space x xs k u h = h in_string
byte_utf8 in_string other x xs k u h = h in_string
byte_utf8 in_escape c x xs k u h = h in_string

lexed_utf8 : (xs front : List ℕ) (m : Mode) → IsUtf8 (front ++ xs) → AllLexemes (lex m xs)
unfolding lex
lexed_utf8 [] front m u = tt
lexed_utf8 (x ∷ xs) front m u =
    byte_utf8 m (class x) x xs (λ n. lex n xs) (λ is. rest_utf8 front x xs (quote_low x is) u)
    (λ n. lexed_utf8 xs (front ++ x ∷ []) n (subst IsUtf8 (sym (append_assoc front (x ∷ []) xs)) u))

allowed_utf8 : (b : Bool) (t : Token) (k : Place → List Token) (next : Place) → TokenIsUtf8 t → AllTokens (k next) → AllTokens (if_allowed b t k next)
allowed_utf8 true t k next h rest = (h, rest)
allowed_utf8 false t k next h rest = (tt, tt)

placed_utf8 : (p : Place) (t : Token) (b : Bool) (k : Place → List Token) → TokenIsUtf8 t → ((n : Place) → AllTokens (k n)) → AllTokens (place_token p t b k)
placed_utf8 p begin_object b k h rest = allowed_utf8 (may_begin p) begin_object k fresh tt (rest fresh)
placed_utf8 p end_object b k h rest = allowed_utf8 (may_close p) end_object k after_value tt (rest after_value)
placed_utf8 p begin_array b k h rest = allowed_utf8 (may_begin p) begin_array k fresh tt (rest fresh)
placed_utf8 p end_array b k h rest = allowed_utf8 (may_close p) end_array k after_value tt (rest after_value)
placed_utf8 p (key s) b k h rest = (tt, tt)
placed_utf8 p (string s) true k h rest = allowed_utf8 (may_begin p) (key s) k after_key tt (rest after_key)
placed_utf8 p (string s) false k h rest = allowed_utf8 (may_begin p) (string s) k after_value h (rest after_value)
placed_utf8 p (number s) b k h rest = allowed_utf8 (may_begin p) (number s) k after_value tt (rest after_value)
placed_utf8 p (boolean v) b k h rest = allowed_utf8 (may_begin p) (boolean v) k after_value tt (rest after_value)
placed_utf8 p null b k h rest = allowed_utf8 (may_begin p) null k after_value tt (rest after_value)
placed_utf8 p bad b k h rest = (tt, tt)

punctuated_utf8 : (ls : List Lexeme) (p : Place) → AllLexemes ls → AllTokens (punctuate p ls)
unfolding punctuate
punctuated_utf8 [] fresh h = tt
punctuated_utf8 [] after_value h = tt
punctuated_utf8 [] after_comma h = (tt, tt)
punctuated_utf8 [] after_key h = (tt, tt)
punctuated_utf8 (token t ∷ ls) p h = placed_utf8 p t (begins_colon ls) (λ n. punctuate n ls) h.0 (λ n. punctuated_utf8 ls n h.1)
punctuated_utf8 (comma ∷ ls) fresh h = (tt, tt)
punctuated_utf8 (comma ∷ ls) after_value h = punctuated_utf8 ls after_comma h.1
punctuated_utf8 (comma ∷ ls) after_comma h = (tt, tt)
punctuated_utf8 (comma ∷ ls) after_key h = (tt, tt)
punctuated_utf8 (colon ∷ ls) fresh h = (tt, tt)
punctuated_utf8 (colon ∷ ls) after_value h = (tt, tt)
punctuated_utf8 (colon ∷ ls) after_comma h = (tt, tt)
punctuated_utf8 (colon ∷ ls) after_key h = punctuated_utf8 ls fresh h.1

tokens_utf8 : (text : List ℕ) → IsUtf8 text → AllTokens (tokens text)
tokens_utf8 text u = punctuated_utf8 (lex between text) fresh (lexed_utf8 text [] between u)

-- ---- values

abbrev mutual
  JsonHasUtf8 : json.Json → Type 0
  JsonHasUtf8 json.null = Unit {0}
  JsonHasUtf8 (json.boolean b) = Unit {0}
  JsonHasUtf8 (json.number s) = Unit {0}
  JsonHasUtf8 (json.string s) = IsUtf8 s
  JsonHasUtf8 (json.array js) = JsonItemsHaveUtf8 js
  JsonHasUtf8 (json.object ms) = JsonMembersHaveUtf8 ms

  JsonItemsHaveUtf8 : json.Items → Type 0
  JsonItemsHaveUtf8 json.no_items = Unit {0}
  JsonItemsHaveUtf8 (json.item j js) = JsonHasUtf8 j × JsonItemsHaveUtf8 js

  JsonMembersHaveUtf8 : json.Members → Type 0
  JsonMembersHaveUtf8 json.no_members = Unit {0}
  JsonMembersHaveUtf8 (json.member k j ms) = JsonHasUtf8 j × JsonMembersHaveUtf8 ms

-- what is found has this, and the tokens behind it have UTF-8 strings
abbrev Finds : {A : Type 0} → (A → Type 0) → Option (A × List Token) → Type 0
Finds P o = IfSome o (λ found. P found.0 × AllTokens found.1)

abbrev FindsAlways : {A : Type 0} → (A → Type 0) → json.Parse A → Type 0
FindsAlways P parse = (ts : List Token) → AllTokens ts → Finds P (parse ts)

finds_map : {A B : Type 0} (P : A → Type 0) (Q : B → Type 0) (f : A → B) (o : Option (A × List Token)) → ((a : A) → P a → Q (f a)) → Finds P o → Finds Q (json.parse_map f o)
finds_map P Q f None each h = tt
finds_map P Q f (Some found) each h = (each found.0 h.0, h.1)

-- one value, and then more
finds_more : {B : Type 0} (Q : B → Type 0) (f : json.Json → B → B) (more : json.Parse B) (o : Option (json.Json × List Token)) → ((j : json.Json) (b : B) → JsonHasUtf8 j → Q b → Q (f j b)) → FindsAlways Q more → Finds JsonHasUtf8 o
    → Finds Q (option_and_then (λ found. json.parse_map (f found.0) (more found.1)) o)
finds_more Q f more None each rest h = tt
finds_more Q f more (Some found) each rest h = finds_map Q Q (f found.0) (more found.1) (λ b q. each found.0 b h.0 q) (rest found.1 h.1)

end_utf8 : (ts : List Token) → AllTokens ts → IfSome (json.after_end_array ts) AllTokens
end_utf8 [] h = tt
end_utf8 (begin_object ∷ ts) h = tt
end_utf8 (end_object ∷ ts) h = tt
end_utf8 (begin_array ∷ ts) h = tt
end_utf8 (end_array ∷ ts) h = h.1
end_utf8 (key s ∷ ts) h = tt
end_utf8 (string s ∷ ts) h = tt
end_utf8 (number s ∷ ts) h = tt
end_utf8 (boolean v ∷ ts) h = tt
end_utf8 (null ∷ ts) h = tt
end_utf8 (bad ∷ ts) h = tt

key_utf8 : (ts : List Token) → AllTokens ts → IfSome (json.read_key ts) (λ found. AllTokens found.1)
key_utf8 [] h = tt
key_utf8 (begin_object ∷ ts) h = tt
key_utf8 (end_object ∷ ts) h = h.1
key_utf8 (begin_array ∷ ts) h = tt
key_utf8 (end_array ∷ ts) h = tt
key_utf8 (key s ∷ ts) h = h.1
key_utf8 (string s ∷ ts) h = tt
key_utf8 (number s ∷ ts) h = tt
key_utf8 (boolean v ∷ ts) h = tt
key_utf8 (null ∷ ts) h = tt
key_utf8 (bad ∷ ts) h = tt

module _ (one : json.Parse json.Json) (finds : FindsAlways JsonHasUtf8 one) where
  items_step_utf8 : (more : json.Parse json.Items) (ts : List Token) (end : Option (List Token)) → FindsAlways JsonItemsHaveUtf8 more → AllTokens ts → IfSome end AllTokens → Finds JsonItemsHaveUtf8 (json.items_step one more ts end)
  items_step_utf8 more ts (Some rest) each h k = (tt, k)
  items_step_utf8 more ts None each h k = finds_more JsonItemsHaveUtf8 json.item more (one ts) (λ j js u v. (u, v)) each (finds ts h)

  items_utf8 : (n : ℕ) → FindsAlways JsonItemsHaveUtf8 (json.items one n)
  unfolding json.items
  items_utf8 zero ts h = tt
  items_utf8 (suc n) ts h = items_step_utf8 (json.items one n) ts (json.after_end_array ts) (items_utf8 n) h (end_utf8 ts h)

  members_step_utf8 : (more : json.Parse json.Members) (o : Option (Option (List ℕ) × List Token)) → FindsAlways JsonMembersHaveUtf8 more → IfSome o (λ found. AllTokens found.1)
      → Finds JsonMembersHaveUtf8 (option_and_then (λ found. json.members_step one more found.0 found.1) o)
  members_step_utf8 more None each h = tt
  members_step_utf8 more (Some (None, ts)) each h = (tt, h)
  members_step_utf8 more (Some (Some k, ts)) each h = finds_more JsonMembersHaveUtf8 (json.member k) more (one ts) (λ j ms u v. (u, v)) each (finds ts h)

  members_utf8 : (n : ℕ) → FindsAlways JsonMembersHaveUtf8 (json.members one n)
  unfolding json.members
  members_utf8 zero ts h = tt
  members_utf8 (suc n) ts h = members_step_utf8 (json.members one n) (json.read_key ts) (members_utf8 n) (key_utf8 ts h)

with_utf8 : (a : json.Parse json.Items) (o : json.Parse json.Members) → FindsAlways JsonItemsHaveUtf8 a → FindsAlways JsonMembersHaveUtf8 o → FindsAlways JsonHasUtf8 (json.value_with a o)
with_utf8 a o p q [] h = tt
with_utf8 a o p q (begin_object ∷ ts) h = finds_map JsonMembersHaveUtf8 JsonHasUtf8 json.object (o ts) (λ ms u. u) (q ts h.1)
with_utf8 a o p q (end_object ∷ ts) h = tt
with_utf8 a o p q (begin_array ∷ ts) h = finds_map JsonItemsHaveUtf8 JsonHasUtf8 json.array (a ts) (λ js u. u) (p ts h.1)
with_utf8 a o p q (end_array ∷ ts) h = tt
with_utf8 a o p q (key s ∷ ts) h = tt
with_utf8 a o p q (string s ∷ ts) h = h
with_utf8 a o p q (number s ∷ ts) h = (tt, h.1)
with_utf8 a o p q (boolean v ∷ ts) h = (tt, h.1)
with_utf8 a o p q (null ∷ ts) h = (tt, h.1)
with_utf8 a o p q (bad ∷ ts) h = tt

value_utf8 : (depth : ℕ) → FindsAlways JsonHasUtf8 (json.value depth)
unfolding json.value
value_utf8 zero = with_utf8 (λ ts. None) (λ ts. None) (λ ts h. tt) (λ ts h. tt)
value_utf8 (suc depth) =
    with_utf8 (λ ts. json.items (json.value depth) (length ts) ts) (λ ts. json.members (json.value depth) (length ts) ts)
    (λ ts. items_utf8 (json.value depth) (value_utf8 depth) (length ts) ts) (λ ts. members_utf8 (json.value depth) (value_utf8 depth) (length ts) ts)

last_utf8 : (o : Option (json.Json × List Token)) → Finds JsonHasUtf8 o → IfSome (option_and_then (λ p. json.if_last p.0 p.1) o) JsonHasUtf8
last_utf8 None h = tt
last_utf8 (Some (j, [])) h = h.0
last_utf8 (Some (j, t ∷ ts)) h = tt

-- ---- the data that is read

number_data : (o : Option values.Num) → IfSome (option_map values.number o) HasUtf8
number_data None = tt
number_data (Some n) = tt

put_utf8 : (k : List ℕ) (d : values.Data) (ms : values.Members) → HasUtf8 d → MembersHaveUtf8 ms → MembersHaveUtf8 (values.put k d ms)
put_utf8 k d values.no_members one h = (one, tt)
put_utf8 k d (values.member l e ms) one h =
    let later = put_utf8 k d ms one h.1 in
    elim (slice_cmp nat_cmp k l) as (λ o. MembersHaveUtf8 (match_ordering o (values.member k d (values.member l e ms)) (values.member l d ms) (values.member l e (values.put k d ms)))) [
      | Less ↦ (one, h)
      | Equal ↦ (one, h.1)
      | Greater ↦ (h.0, later)
    ]

array_data : (o : Option values.Items) → IfSome o ItemsHaveUtf8 → IfSome (option_map values.array o) HasUtf8
array_data None h = tt
array_data (Some ds) h = h

object_data : (o : Option values.Members) → IfSome o MembersHaveUtf8 → IfSome (option_map values.object o) HasUtf8
object_data None h = tt
object_data (Some ms) h = h

item_data : (one : Option values.Data) (rest : Option values.Items) → IfSome one HasUtf8 → IfSome rest ItemsHaveUtf8 → IfSome (option_and_then (λ d. option_map (values.item d) rest) one) ItemsHaveUtf8
item_data None rest h k = tt
item_data (Some d) None h k = tt
item_data (Some d) (Some ds) h k = (h, k)

member_data : (one : Option values.Data) (next : values.Data → Option values.Members) → IfSome one HasUtf8 → ((d : values.Data) → HasUtf8 d → IfSome (next d) MembersHaveUtf8) → IfSome (option_and_then next one) MembersHaveUtf8
member_data None next h each = tt
member_data (Some d) next h each = each d h

mutual
  data_utf8 : (j : json.Json) → JsonHasUtf8 j → IfSome (of_json j) HasUtf8
  data_utf8 json.null u = tt
  data_utf8 (json.boolean b) u = tt
  data_utf8 (json.number s) u = number_data (number_of s)
  data_utf8 (json.string s) u = u
  data_utf8 (json.array js) u = array_data (of_items js) (data_items_utf8 js u)
  data_utf8 (json.object ms) u = object_data (of_members ms values.no_members) (data_members_utf8 ms values.no_members u tt)

  data_items_utf8 : (js : json.Items) → JsonItemsHaveUtf8 js → IfSome (of_items js) ItemsHaveUtf8
  data_items_utf8 json.no_items u = tt
  data_items_utf8 (json.item j js) u = item_data (of_json j) (of_items js) (data_utf8 j u.0) (data_items_utf8 js u.1)

  data_members_utf8 : (ms : json.Members) (found : values.Members) → JsonMembersHaveUtf8 ms → MembersHaveUtf8 found → IfSome (of_members ms found) MembersHaveUtf8
  data_members_utf8 json.no_members found u h = h
  data_members_utf8 (json.member k j ms) found u h =
      member_data (of_json j) (λ d. of_members ms (values.put k d found)) (data_utf8 j u.0) (λ d one. data_members_utf8 ms (values.put k d found) u.1 (put_utf8 k d found one h))

then_utf8 : (o : Option json.Json) → IfSome o JsonHasUtf8 → IfSome (option_and_then of_json o) HasUtf8
then_utf8 None h = tt
then_utf8 (Some j) h = data_utf8 j h

-- the JSON that a UTF-8 text is has UTF-8 strings
pub read_utf8 : (text : List ℕ) → IsUtf8 text → IfSome (read text) HasUtf8
read_utf8 text u =
    let found = json.value max_depth (tokens text) in
    then_utf8 (option_and_then (λ p. json.if_last p.0 p.1) found) (last_utf8 found (value_utf8 max_depth (tokens text) (tokens_utf8 text u)))
