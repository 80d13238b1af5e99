-- What is written of readable JSON is read again.
use Rattle.std.proofs.Common.{◌≡◌, ℕ, ◌≤◌, pos, negsuc, List, [], ◌∷◌, ◌++◌, max, suc, Bool, true, false, cond, Option, Some, None, option_map, option_and_then, Less, Greater, nat_cmp, IsUtf8, refl, sym, ap, ap₂, ◌∙◌, append-nil, eq-eqb}
use Rattle.std.specs.Ordering.{match_ordering}
use Rattle.std.specs.Cmp.Lexicographic.{slice_cmp, nat_list_cmp_total}
use Rattle.std.proofs.lemmas.Fmt.{IsAscii-decimal, IsAscii-signed}
use Rattle.std.proofs.lemmas.Str.{IsUtf8-append, IsUtf8-nil, IsUtf8-from_ascii, utf8_valid_len-IsUtf8}
use Rattle.json.specs.Token.{Token}
use Rattle.json.specs.Lex.{tokens}
use Rattle.json.specs.Print.{quoted, token_text, IsNumber}
use Rattle.json.specs.Json as json
use Rattle.json.specs.Tree as tree
use Rattle.json.proofs.Printed.Decimals.{IsNumber-decimal, IsNumber-signed_decimal}
use Rattle.json.proofs.Printed.Tokens.{tokens-print}
use Rattle.json.proofs.Printed.Trees.{value-json_tokens, ArePrintable-json_tokens}
use Rattle.json.proofs.Printed.Utf8.{IsUtf8-are_ascii, IsUtf8-quoted, IsUtf8-boolean}
use Rattle.serde_json.specs.Data.{Num, unsigned, negative, float, Data, null, boolean, number, string, array, object, Items, no_items, item, Members, no_members, member, put, depth, items_depth, members_depth}
use Rattle.serde_json.specs.Read.{number_of, of_json, of_items, of_members, max_depth, read as read_text}
use Rattle.serde_json.specs.Written.{number_text, outline, items_outline, members_outline, comma_if, compact_text, items_text, members_text}
use Rattle.serde_json.proofs.Numbers.{number_of-decimal, number_of-negative}
use Rattle.serde_json.proofs.Texts.{print-outline}
use Rattle.yp_data_json.specs.Runs.{StandsBefore}
use Rattle.yp_value.specs.Json.{json_of}
use Rattle.yp_receiver.specs.Readable.{IsWhole, IsReadable, ItemsAreReadable, MembersAreReadable}
use Rattle.yp_base.specs.PathLaws.{less_text_turned}

-- ---- numbers

number_again : (n : Num) → IsWhole n → number_of (number_text n) ≡ Some n
number_again (unsigned n) h = number_of-decimal n h
number_again (negative (pos n)) h = absurd h
number_again (negative (negsuc n)) h = number_of-negative n h
number_again (float x) h = absurd h

is_number : (n : Num) → IsWhole n → IsNumber (number_text n)
is_number (unsigned n) h = IsNumber-decimal n h
is_number (negative (pos n)) h = absurd h
is_number (negative (negsuc n)) h = IsNumber-signed_decimal (negsuc n) h
is_number (float x) h = absurd h

number_utf8 : (n : Num) → IsWhole n → IsUtf8 (number_text n)
number_utf8 (unsigned n) h = IsUtf8-from_ascii (number_text (unsigned n)) (IsAscii-decimal n h)
number_utf8 (negative (pos n)) h = absurd h
number_utf8 (negative (negsuc n)) h = IsUtf8-from_ascii (number_text (negative (negsuc n))) (IsAscii-signed (negsuc n) h)
number_utf8 (float x) h = absurd h

-- ---- members in the order of their names

-- a name comes after each of these
abbrev AllBefore : List ℕ → Members → Type 0
AllBefore name no_members = Unit {0}
AllBefore name (member other d ms) = (slice_cmp nat_cmp name other ≡ Greater) × AllBefore name ms

-- each of the second names comes after each of the first
abbrev AllPast : Members → Members → Type 0
AllPast found no_members = Unit {0}
AllPast found (member name d ms) = AllBefore name found × AllPast found ms

abbrev joined : Members → Members → Members
joined no_members more = more
joined (member name d ms) more = member name d (joined ms more)

joined_none : (found : Members) → joined found no_members ≡ found
joined_none no_members = refl
joined_none (member name d found) = ap (member name d) (joined_none found)

joined_one : (found : Members) (name : List ℕ) (d : Data) (more : Members) → joined (joined found (member name d no_members)) more ≡ joined found (member name d more)
joined_one no_members name d more = refl
joined_one (member other e found) name d more = ap (member other e) (joined_one found name d more)

put_last : (name : List ℕ) (d : Data) (found : Members) → AllBefore name found → put name d found ≡ joined found (member name d no_members)
put_last name d no_members h = refl
put_last name d (member other e found) h =
    ap (λ o. match_ordering o (member name d (member other e found)) (member other d found) (member other e (put name d found))) h.0
    ∙ ap (member other e) (put_last name d found h.1)

before_more : (name : List ℕ) (found : Members) (other : List ℕ) (d : Data) → AllBefore name found → slice_cmp nat_cmp name other ≡ Greater → AllBefore name (joined found (member other d no_members))
before_more name no_members other d h past = (past, tt)
before_more name (member first e found) other d h past = (h.0, before_more name found other d h.1 past)

-- a name before another that stands before members
lower : (name other : List ℕ) (ms : Members) → slice_cmp nat_cmp name other ≡ Less → StandsBefore other ms → StandsBefore name ms
lower name other no_members h stands = tt
lower name other (member third d ms) h stands = nat_list_cmp_total.trans name other third h stands

past_more : (found : Members) (name : List ℕ) (d : Data) (ms : Members) → AllPast found ms → StandsBefore name ms → MembersAreReadable ms → AllPast (joined found (member name d no_members)) ms
past_more found name d no_members past stands h = tt
past_more found name d (member other e ms) past stands h =
    (before_more other found name d past.0 (less_text_turned name other stands), past_more found name d ms past.1 (lower name other ms stands h.1.0) h.1.1.1)

none_past : (ms : Members) → AllPast no_members ms
none_past no_members = tt
none_past (member name d ms) = (tt, none_past ms)

-- ---- what is read of the outline

mutual
  data_again : (d : Data) → IsReadable d → of_json (outline d) ≡ Some d
  data_again null h = refl
  data_again (boolean b) h = refl
  data_again (number n) h = ap (option_map number) (number_again n h)
  data_again (string s) h = refl
  data_again (array ds) h = ap (option_map array) (items_again ds h)
  data_again (object ms) h = ap (option_map object) (members_again ms no_members (none_past ms) h)

  items_again : (ds : Items) → ItemsAreReadable ds → of_items (items_outline ds) ≡ Some ds
  items_again no_items h = refl
  items_again (item d ds) h =
      ap (option_and_then (λ e. option_map (item e) (of_items (items_outline ds)))) (data_again d h.0) ∙ ap (option_map (item d)) (items_again ds h.1)

  members_again : (ms found : Members) → AllPast found ms → MembersAreReadable ms → of_members (members_outline ms) found ≡ Some (joined found ms)
  members_again no_members found past h = ap Some (sym (joined_none found))
  members_again (member name d ms) found past h =
      ap (option_and_then (λ e. of_members (members_outline ms) (put name e found))) (data_again d h.1.1.0)
      ∙ ap (of_members (members_outline ms)) (put_last name d found past.0)
      ∙ members_again ms (joined found (member name d no_members)) (past_more found name d ms past.1 h.1.0 h.1.1.1) h.1.1.1
      ∙ ap Some (joined_one found name d ms)

mutual
  depth_again : (d : Data) → tree.depth (outline d) ≡ depth d
  depth_again null = refl
  depth_again (boolean b) = refl
  depth_again (number n) = refl
  depth_again (string s) = refl
  depth_again (array ds) = ap suc (items_depth_again ds)
  depth_again (object ms) = ap suc (members_depth_again ms)

  items_depth_again : (ds : Items) → tree.items_depth (items_outline ds) ≡ items_depth ds
  items_depth_again no_items = refl
  items_depth_again (item d ds) = ap₂ max (depth_again d) (items_depth_again ds)

  members_depth_again : (ms : Members) → tree.members_depth (members_outline ms) ≡ members_depth ms
  members_depth_again no_members = refl
  members_depth_again (member name d ms) = ap₂ max (depth_again d) (members_depth_again ms)

mutual
  has_numbers : (d : Data) → IsReadable d → tree.HasNumbers (outline d)
  has_numbers null h = tt
  has_numbers (boolean b) h = tt
  has_numbers (number n) h = is_number n h
  has_numbers (string s) h = tt
  has_numbers (array ds) h = items_have_numbers ds h
  has_numbers (object ms) h = members_have_numbers ms h

  items_have_numbers : (ds : Items) → ItemsAreReadable ds → tree.ItemsHaveNumbers (items_outline ds)
  items_have_numbers no_items h = tt
  items_have_numbers (item d ds) h = (has_numbers d h.0, items_have_numbers ds h.1)

  members_have_numbers : (ms : Members) → MembersAreReadable ms → tree.MembersHaveNumbers (members_outline ms)
  members_have_numbers no_members h = tt
  members_have_numbers (member name d ms) h = (has_numbers d h.1.1.0, members_have_numbers ms h.1.1.1)

-- ---- the text

comma_utf8 : (later : Bool) → IsUtf8 (comma_if later)
comma_utf8 true = IsUtf8-are_ascii (44 ∷ []) refl
comma_utf8 false = IsUtf8-nil

one_utf8 : (byte : ℕ) (text : List ℕ) → IsUtf8 (byte ∷ []) → IsUtf8 text → IsUtf8 (byte ∷ text)
one_utf8 byte text one rest = IsUtf8-append (byte ∷ []) text one rest

mutual
  text_utf8 : (d : Data) → IsReadable d → IsUtf8 (compact_text d)
  text_utf8 null h = IsUtf8-are_ascii (token_text Token.null) refl
  text_utf8 (boolean b) h = IsUtf8-boolean b
  text_utf8 (number n) h = number_utf8 n h
  text_utf8 (string s) h = IsUtf8-quoted s h
  text_utf8 (array ds) h = one_utf8 91 (items_text false ds) (IsUtf8-are_ascii (91 ∷ []) refl) (items_utf8 false ds h)
  text_utf8 (object ms) h = one_utf8 123 (members_text false ms) (IsUtf8-are_ascii (123 ∷ []) refl) (members_utf8 false ms h)

  items_utf8 : (later : Bool) (ds : Items) → ItemsAreReadable ds → IsUtf8 (items_text later ds)
  items_utf8 later no_items h = IsUtf8-are_ascii (93 ∷ []) refl
  items_utf8 later (item d ds) h =
      IsUtf8-append (comma_if later) (compact_text d ++ items_text true ds) (comma_utf8 later)
      (IsUtf8-append (compact_text d) (items_text true ds) (text_utf8 d h.0) (items_utf8 true ds h.1))

  members_utf8 : (later : Bool) (ms : Members) → MembersAreReadable ms → IsUtf8 (members_text later ms)
  members_utf8 later no_members h = IsUtf8-are_ascii (125 ∷ []) refl
  members_utf8 later (member name d ms) h =
      let value = IsUtf8-append (compact_text d) (members_text true ms) (text_utf8 d h.1.1.0) (members_utf8 true ms h.1.1.1) in
      let colon = one_utf8 58 (compact_text d ++ members_text true ms) (IsUtf8-are_ascii (58 ∷ []) refl) value in
      IsUtf8-append (comma_if later) (quoted name ++ 58 ∷ (compact_text d ++ members_text true ms)) (comma_utf8 later)
      (IsUtf8-append (quoted name) (58 ∷ (compact_text d ++ members_text true ms)) (IsUtf8-quoted name h.0) colon)

-- ---- read again

-- the tokens of a text
text_tokens : (d : Data) → IsReadable d → tokens (compact_text d) ≡ tree.json_tokens (outline d)
text_tokens d h = ap tokens (sym (print-outline d)) ∙ tokens-print (tree.json_tokens (outline d)) (ArePrintable-json_tokens (outline d) (has_numbers d h))

shallow_again : (d : Data) → depth d ≤ max_depth → tree.depth (outline d) ≤ max_depth
shallow_again d h = rw (depth_again d) h

read_again : (d : Data) → IsReadable d → depth d ≤ max_depth → read_text (compact_text d) ≡ Some d
read_again d h shallow =
    let ts = tree.json_tokens (outline d) in
    let whole : Option (json.Json × List Token) → Option Data = λ o. option_and_then of_json (option_and_then (λ p. json.if_last p.0 p.1) o) in
    ap (λ us. whole (json.value max_depth us)) (text_tokens d h ∙ sym (append-nil ts))
    ∙ ap whole (value-json_tokens (outline d) max_depth [] (shallow_again d shallow))
    ∙ data_again d h

-- the text of readable JSON is that JSON
pub written_text_again : (d : Data) → IsReadable d → depth d ≤ max_depth → json_of (compact_text d) ≡ Some d
written_text_again d h shallow =
    ap (λ b. cond b (read_text (compact_text d)) None) (eq-eqb _ _ (utf8_valid_len-IsUtf8 (compact_text d) (text_utf8 d h))) ∙ read_again d h shallow
