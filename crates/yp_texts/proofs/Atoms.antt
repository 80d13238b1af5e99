-- The canonical text of an atom that is read of a UTF-8 text is UTF-8.
use Rattle.std.proofs.Common.{◌≡◌, ℕ, suc, ◌<◌, ◌≤◌, ◌-◌, ◌^◌, ◌==◌, pos, negsuc, ℤ, List, Bool, true, false, true≢false, cond, Option, Some, None, option_map, unsigned_abs, codes, decimal, IfSome, refl, sym, arith}
use Rattle.std.specs.Str.{is_utf8, IsAscii}
use Rattle.std.specs.Fmt.{signed_decimal}
use Rattle.std.proofs.lemmas.Bool.{and_parts, leb-true}
use Rattle.std.proofs.lemmas.Fmt.{IsAscii-decimal}
use Rattle.std.proofs.lemmas.Str.{IsUtf8-from_ascii, is_utf8-from_IsUtf8}
use Rattle.std.proofs.lemmas.Str.Ascii.{IsAscii-cons}
use Rattle.json.proofs.Printed.Utf8.{IsUtf8-are_ascii}
use Rattle.serde_json.specs.Data.{Data, null, boolean, number, string, array, object}
use Rattle.serde_json.specs.Find.{as_bool}
use Rattle.yp_base.specs.declared.atom.Atom.{Atom}
use Rattle.yp_base.specs.declared.atom.Atom.TheVariants.{Bool as Truth, Int, Uint, Dec, Text}
use Rattle.yp_base.specs.declared.leaf_type.LeafType.{LeafType}
use Rattle.yp_base.specs.declared.leaf_type.LeafType.TheVariants.{Bool as TruthType, Int as IntType, Uint as UintType, Dec as DecType, Text as TextType, Names, Empty as EmptyType}
use Rattle.yp_base.specs.declared.row.Value.{Value}
use Rattle.yp_base.specs.declared.row.Value.TheVariants.{Atom as Plain, Member, Empty, Present}
use Rattle.yp_value.specs.Json.{whole_in, string_in, plain_in, is_null_array, value_in, value_fits}
use Rattle.yp_value.specs.JsonLaws.{json_fits}
use Rattle.yp_value.specs.TextLaws.{read_fits, widths_fit}
use Rattle.yp_value.specs.Texts.{atom_in, atom_text, fits, is_between, truth_in, number_in, decimal_in}
use Rattle.yp_base.specs.Types.{is_type, is_width, is_short, is_among}
use Rattle.yp_value.proofs.Written.{ascii_decimal}
use Rattle.yp_receiver.specs.Readable.{has_value_text}
use Rattle.yp_utf8.specs.Utf8.{HasUtf8}

-- ---- numbers are written in ASCII

plain : (text : List ℕ) → IsAscii text → is_utf8 text ≡ true
plain text h = is_utf8-from_IsUtf8 text (IsUtf8-from_ascii text h)

low_enough : (k n : ℕ) → n ≤ k - 1 → k ≤ 2 ^ 63 → n < 2 ^ 64
low_enough k n h low = omega arith

not_too_low : (k n : ℕ) → suc n ≤ k → k ≤ 2 ^ 63 → suc n < 2 ^ 64
not_too_low k n h low = omega arith

below_width : (k n : ℕ) → n ≤ k → k < 2 ^ 64 → n < 2 ^ 64
below_width k n h low = omega arith

int_ascii : (bits : ℕ) (z : ℤ) → is_width bits ≡ true → is_between (2 ^ (bits - 1)) (2 ^ (bits - 1) - 1) z ≡ true → IsAscii (signed_decimal z)
int_ascii bits (pos n) width h = IsAscii-decimal n (low_enough (2 ^ (bits - 1)) n (leb-true n (2 ^ (bits - 1) - 1) h) (widths_fit bits width).0)
int_ascii bits (negsuc n) width h =
    IsAscii-cons 45 (decimal (suc n)) (omega arith) (IsAscii-decimal (suc n) (not_too_low (2 ^ (bits - 1)) n (leb-true (suc n) (2 ^ (bits - 1)) h) (widths_fit bits width).0))

units_low : (units : ℤ) → is_between (2 ^ 63) (2 ^ 63 - 1) units ≡ true → unsigned_abs units < 2 ^ 64
units_low (pos n) h = let low = leb-true n (2 ^ 63 - 1) h in omega arith
units_low (negsuc n) h = let low = leb-true (suc n) (2 ^ 63) h in omega arith

-- an atom that is a text is UTF-8
abbrev pub TextIsUtf8 : Atom → Type 0
TextIsUtf8 (Truth truth) = Unit {0}
TextIsUtf8 (Int n) = Unit {0}
TextIsUtf8 (Uint n) = Unit {0}
TextIsUtf8 (Dec places units) = Unit {0}
TextIsUtf8 (Text text) = is_utf8 text ≡ true

int_utf8 : (ty : LeafType) (z : ℤ) → is_type ty ≡ true → fits ty (Int z) ≡ true → is_utf8 (signed_decimal z) ≡ true
int_utf8 TruthType z t h = absurd (true≢false (sym h))
int_utf8 (IntType bits) z t h = plain (signed_decimal z) (int_ascii bits z t h)
int_utf8 (UintType bits) z t h = absurd (true≢false (sym h))
int_utf8 (DecType places) z t h = absurd (true≢false (sym h))
int_utf8 TextType z t h = absurd (true≢false (sym h))
int_utf8 (Names names) z t h = absurd (true≢false (sym h))
int_utf8 EmptyType z t h = absurd (true≢false (sym h))

uint_utf8 : (ty : LeafType) (n : ℕ) → is_type ty ≡ true → fits ty (Uint n) ≡ true → is_utf8 (decimal n) ≡ true
uint_utf8 TruthType n t h = absurd (true≢false (sym h))
uint_utf8 (IntType bits) n t h = absurd (true≢false (sym h))
uint_utf8 (UintType bits) n t h = plain (decimal n) (IsAscii-decimal n (below_width (2 ^ bits - 1) n (leb-true n (2 ^ bits - 1) h) (widths_fit bits t).1))
uint_utf8 (DecType places) n t h = absurd (true≢false (sym h))
uint_utf8 TextType n t h = absurd (true≢false (sym h))
uint_utf8 (Names names) n t h = absurd (true≢false (sym h))
uint_utf8 EmptyType n t h = absurd (true≢false (sym h))

dec_utf8 : (ty : LeafType) (units : ℤ) (own : ℕ) → fits ty (Dec own units) ≡ true → is_utf8 (atom_text (Dec own units)) ≡ true
dec_utf8 TruthType units own h = absurd (true≢false (sym h))
dec_utf8 (IntType bits) units own h = absurd (true≢false (sym h))
dec_utf8 (UintType bits) units own h = absurd (true≢false (sym h))
dec_utf8 (DecType places) units own h =
    plain (atom_text (Dec own units)) (ascii_decimal units own (units_low units (and_parts (own == places) (is_between (2 ^ 63) (2 ^ 63 - 1) units) h).1))
dec_utf8 TextType units own h = absurd (true≢false (sym h))
dec_utf8 (Names names) units own h = absurd (true≢false (sym h))
dec_utf8 EmptyType units own h = absurd (true≢false (sym h))

atom_utf8 : (ty : LeafType) (atom : Atom) → is_type ty ≡ true → fits ty atom ≡ true → TextIsUtf8 atom → is_utf8 (atom_text atom) ≡ true
atom_utf8 ty (Truth true) t h u = is_utf8-from_IsUtf8 (codes "true") (IsUtf8-are_ascii (codes "true") refl)
atom_utf8 ty (Truth false) t h u = is_utf8-from_IsUtf8 (codes "false") (IsUtf8-are_ascii (codes "false") refl)
atom_utf8 ty (Int z) t h u = int_utf8 ty z t h
atom_utf8 ty (Uint n) t h u = uint_utf8 ty n t h
atom_utf8 ty (Dec places units) t h u = dec_utf8 ty units places h
atom_utf8 ty (Text text) t h u = u

-- ---- atoms of texts

kept_text : (b : Bool) (text : List ℕ) → is_utf8 text ≡ true → IfSome (cond b (Some (Text text)) None) TextIsUtf8
kept_text true text u = u
kept_text false text u = tt

no_text : {X : Type 0} (f : X → Atom) (o : Option X) → ((x : X) → TextIsUtf8 (f x)) → IfSome (option_map f o) TextIsUtf8
no_text f None each = tt
no_text f (Some x) each = each x

text_read : (ty : LeafType) (text : List ℕ) → is_utf8 text ≡ true → IfSome (atom_in ty text) TextIsUtf8
text_read TruthType text u = no_text (λ truth. Truth truth) (truth_in text) (λ truth. tt)
text_read (IntType bits) text u = no_text (λ n. Int n) (number_in (2 ^ (bits - 1)) (2 ^ (bits - 1) - 1) text) (λ n. tt)
text_read (UintType bits) text u = no_text (λ n. Uint (unsigned_abs n)) (number_in 0 (2 ^ bits - 1) text) (λ n. tt)
text_read (DecType places) text u = no_text (λ units. Dec places units) (decimal_in places text) (λ n. tt)
text_read TextType text u = kept_text (is_short text) text u
text_read (Names names) text u = kept_text (is_among text names) text u
text_read EmptyType text u = tt

-- an atom that is read of a UTF-8 text has a text that is UTF-8
pub atom_read : (ty : LeafType) (text : List ℕ) → is_type ty ≡ true → is_utf8 text ≡ true → IfSome (atom_in ty text) (λ atom. is_utf8 (atom_text atom) ≡ true)
atom_read ty text t u =
    elim (atom_in ty text) as (λ (o : Option Atom). atom_in ty text ≡ o → IfSome o TextIsUtf8 → IfSome o (λ atom. is_utf8 (atom_text atom) ≡ true)) [
      | None ↦ λ is own. tt
      | Some atom ↦ λ is own. atom_utf8 ty atom t (read_fits ty text atom is) own
    ] refl (text_read ty text u)

-- ---- values of JSON

string_read : (ty : LeafType) (d : Data) → HasUtf8 d → IfSome (string_in ty d) TextIsUtf8
string_read ty null u = tt
string_read ty (boolean b) u = tt
string_read ty (number n) u = tt
string_read ty (string s) u = text_read ty s (is_utf8-from_IsUtf8 s u)
string_read ty (array ds) u = tt
string_read ty (object ms) u = tt

either_read : (b : Bool) (one two : Option Atom) → IfSome one TextIsUtf8 → IfSome two TextIsUtf8 → IfSome (cond b one two) TextIsUtf8
either_read true one two h k = h
either_read false one two h k = k

plain_read : (ty : LeafType) (d : Data) → HasUtf8 d → IfSome (plain_in ty d) TextIsUtf8
plain_read TruthType d u = no_text (λ truth. Truth truth) (as_bool d) (λ truth. tt)
plain_read (IntType bits) d u =
    let whole = whole_in (2 ^ (bits - 1)) (2 ^ (bits - 1) - 1) d in
    either_read (bits == 64) (string_in (IntType bits) d) (option_map (λ n. Int n) whole) (string_read (IntType bits) d u) (no_text (λ n. Int n) whole (λ n. tt))
plain_read (UintType bits) d u =
    let whole = whole_in 0 (2 ^ bits - 1) d in
    either_read (bits == 64) (string_in (UintType bits) d) (option_map (λ n. Uint (unsigned_abs n)) whole) (string_read (UintType bits) d u) (no_text (λ n. Uint (unsigned_abs n)) whole (λ n. tt))
plain_read (DecType places) d u = string_read (DecType places) d u
plain_read TextType d u = string_read TextType d u
plain_read (Names names) d u = string_read (Names names) d u
plain_read EmptyType d u = tt

-- a value that is an atom
abbrev ValueIsUtf8 : Value → Type 0
ValueIsUtf8 (Plain atom) = TextIsUtf8 atom
ValueIsUtf8 Member = Unit {0}
ValueIsUtf8 Empty = Unit {0}
ValueIsUtf8 Present = Unit {0}

made_plain : (o : Option Atom) → IfSome o TextIsUtf8 → IfSome (option_map (λ atom. Plain atom) o) ValueIsUtf8
made_plain None h = tt
made_plain (Some atom) h = h

made_empty : (b : Bool) → IfSome (cond b (Some Empty) None) ValueIsUtf8
made_empty true = tt
made_empty false = tt

own_read : (ty : LeafType) (d : Data) → HasUtf8 d → IfSome (value_in ty d) ValueIsUtf8
own_read TruthType d u = made_plain (plain_in TruthType d) (plain_read TruthType d u)
own_read (IntType bits) d u = made_plain (plain_in (IntType bits) d) (plain_read (IntType bits) d u)
own_read (UintType bits) d u = made_plain (plain_in (UintType bits) d) (plain_read (UintType bits) d u)
own_read (DecType places) d u = made_plain (plain_in (DecType places) d) (plain_read (DecType places) d u)
own_read TextType d u = made_plain (plain_in TextType d) (plain_read TextType d u)
own_read (Names names) d u = made_plain (plain_in (Names names) d) (plain_read (Names names) d u)
own_read EmptyType d u = made_empty (is_null_array d)

value_utf8 : (ty : LeafType) (value : Value) → is_type ty ≡ true → value_fits ty value ≡ true → ValueIsUtf8 value → has_value_text value ≡ true
value_utf8 ty (Plain atom) t h u = atom_utf8 ty atom t h u
value_utf8 ty Member t h u = refl
value_utf8 ty Empty t h u = refl
value_utf8 ty Present t h u = refl

-- a value that is read of JSON with UTF-8 texts has a text that is UTF-8
pub value_read : (ty : LeafType) (d : Data) → is_type ty ≡ true → HasUtf8 d → IfSome (value_in ty d) (λ value. has_value_text value ≡ true)
value_read ty d t u =
    elim (value_in ty d) as (λ (o : Option Value). value_in ty d ≡ o → IfSome o ValueIsUtf8 → IfSome o (λ value. has_value_text value ≡ true)) [
      | None ↦ λ is own. tt
      | Some value ↦ λ is own. value_utf8 ty value t (json_fits ty d value is) own
    ] refl (own_read ty d u)
