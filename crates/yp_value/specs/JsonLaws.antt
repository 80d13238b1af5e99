-- JSON of values: what is read fits, and what is written is read again.
use Rattle.std.proofs.Common.{◌≡◌, ℕ, ◌-◌, ◌^◌, ◌==◌, List, Bool, true, false, cond, Option, Some, None, option_map, option_and_then, refl, sym, ap, ◌∙◌}
use Rattle.std.specs.Prelude.{ℤ, pos, negsuc, unsigned_abs}
use Rattle.serde_json.specs.Data.{Data, number, string, unsigned}
use Rattle.serde_json.specs.Find.{as_bool, as_number, as_str, as_integer, of_integer}
use Rattle.yp_base.specs.declared.atom.Atom.{Atom}
use Rattle.yp_base.specs.declared.atom.Atom.TheVariants.{Bool as Truth, Int, Uint, Dec, Text}
use Rattle.yp_base.specs.declared.leaf_type.LeafType.{LeafType}
use Rattle.yp_base.specs.declared.leaf_type.LeafType.TheVariants.{Bool as TruthType, Int as IntType, Uint as UintType, Dec as DecType, Text as TextType, Names, Empty as EmptyType}
use Rattle.yp_base.specs.declared.row.Value.{Value}
use Rattle.yp_base.specs.declared.row.Value.TheVariants.{Atom as Plain, Member, Empty, Present}
use Rattle.yp_base.specs.Types.{is_type}
use Rattle.yp_value.specs.Texts.{atom_in, atom_text, fits, fits_bool, fits_int, fits_uint, is_between}
use Rattle.yp_value.specs.Json.{whole_in, string_in, plain_in, is_null_array, value_in, atom_data, value_data, value_fits}
use Rattle.yp_value.specs.TextLaws.{made_of, size_between, read_fits, text_again}

-- ---- what is read fits

string_fits : (ty : LeafType) (text : Option (List ℕ)) (a : Atom) → option_and_then (atom_in ty) text ≡ Some a → fits ty a ≡ true
string_fits ty None a e = cc
string_fits ty (Some text) a e = read_fits ty text a e

kept_between : (t : Bool) (low high : ℕ) (n z : ℤ) → is_between low high n ≡ t → cond t (Some n) None ≡ Some z → is_between low high z ≡ true
kept_between true low high n z is e = let same : n ≡ z = cc in ap (is_between low high) (sym same) ∙ is
kept_between false low high n z is e = cc

whole_between : (low high : ℕ) (o : Option ℤ) (z : ℤ) → option_and_then (λ n. cond (is_between low high n) (Some n) None) o ≡ Some z → is_between low high z ≡ true
whole_between low high None z e = cc
whole_between low high (Some n) z e = kept_between (is_between low high n) low high n z refl e

either_fits : (t : Bool) (p : Atom → Bool) (one two : Option Atom) (a : Atom) → (one ≡ Some a → p a ≡ true) → (two ≡ Some a → p a ≡ true) → cond t one two ≡ Some a → p a ≡ true
either_fits true p one two a h k e = h e
either_fits false p one two a h k e = k e

plain_fits : (ty : LeafType) (json : Data) (a : Atom) → plain_in ty json ≡ Some a → fits ty a ≡ true
plain_fits TruthType json a e = made_of (λ b. Truth b) fits_bool (as_bool json) a (λ b is. refl) e
plain_fits (IntType bits) json a e =
    let low = 2 ^ (bits - 1) in
    let high = 2 ^ (bits - 1) - 1 in
    either_fits (bits == 64) (fits_int bits) (string_in (IntType bits) json) (option_map (λ n. Int n) (whole_in low high json)) a (string_fits (IntType bits) (as_str json) a)
    (made_of (λ n. Int n) (fits_int bits) (whole_in low high json) a (λ z is. whole_between low high (option_and_then as_integer (as_number json)) z is)) e
plain_fits (UintType bits) json a e =
    let high = 2 ^ bits - 1 in
    either_fits (bits == 64) (fits_uint bits) (string_in (UintType bits) json) (option_map (λ n. Uint (unsigned_abs n)) (whole_in 0 high json)) a (string_fits (UintType bits) (as_str json) a)
    (made_of (λ n. Uint (unsigned_abs n)) (fits_uint bits) (whole_in 0 high json) a (λ z is. size_between high z (whole_between 0 high (option_and_then as_integer (as_number json)) z is))) e
plain_fits (DecType places) json a e = string_fits (DecType places) (as_str json) a e
plain_fits TextType json a e = string_fits TextType (as_str json) a e
plain_fits (Names names) json a e = string_fits (Names names) (as_str json) a e
plain_fits EmptyType json a e = cc

value_of : (ty : LeafType) (o : Option Atom) (v : Value) → ((a : Atom) → o ≡ Some a → fits ty a ≡ true) → option_map (λ a. Plain a) o ≡ Some v → value_fits ty v ≡ true
value_of ty None v h e = cc
value_of ty (Some a) v h e = let same : Plain a ≡ v = cc in ap (value_fits ty) (sym same) ∙ h a refl

empty_fits : (t : Bool) (v : Value) → cond t (Some Empty) None ≡ Some v → value_fits EmptyType v ≡ true
empty_fits true v e = let same : Empty ≡ v = cc in ap (value_fits EmptyType) (sym same)
empty_fits false v e = cc

-- what is read is a value of the type
pub json_fits : (ty : LeafType) (json : Data) (v : Value) → value_in ty json ≡ Some v → value_fits ty v ≡ true
json_fits TruthType json v e = value_of TruthType (plain_in TruthType json) v (plain_fits TruthType json) e
json_fits (IntType bits) json v e = value_of (IntType bits) (plain_in (IntType bits) json) v (plain_fits (IntType bits) json) e
json_fits (UintType bits) json v e = value_of (UintType bits) (plain_in (UintType bits) json) v (plain_fits (UintType bits) json) e
json_fits (DecType places) json v e = value_of (DecType places) (plain_in (DecType places) json) v (plain_fits (DecType places) json) e
json_fits TextType json v e = value_of TextType (plain_in TextType json) v (plain_fits TextType json) e
json_fits (Names names) json v e = value_of (Names names) (plain_in (Names names) json) v (plain_fits (Names names) json) e
json_fits EmptyType json v e = empty_fits (is_null_array json) v e

-- ---- what is written is read again

whole_again : (low high : ℕ) (z : ℤ) → is_between low high z ≡ true → whole_in low high (number (of_integer z)) ≡ Some z
whole_again low high (pos n) e = ap (λ t. cond t (Some (pos n)) None) e
whole_again low high (negsuc n) e = ap (λ t. cond t (Some (negsuc n)) None) e

int_again : (t : Bool) (bits : ℕ) (n : ℤ) → is_between (2 ^ (bits - 1)) (2 ^ (bits - 1) - 1) n ≡ true → atom_in (IntType bits) (atom_text (Int n)) ≡ Some (Int n)
    → cond t (string_in (IntType bits) (cond t (string (atom_text (Int n))) (number (of_integer n)))) (option_map (λ z. Int z) (whole_in (2 ^ (bits - 1)) (2 ^ (bits - 1) - 1) (cond t (string (atom_text (Int n))) (number (of_integer n))))) ≡ Some (Int n)
int_again true bits n e again = again
int_again false bits n e again = ap (option_map (λ z. Int z)) (whole_again (2 ^ (bits - 1)) (2 ^ (bits - 1) - 1) n e)

uint_again : (t : Bool) (bits n : ℕ) → is_between 0 (2 ^ bits - 1) (pos n) ≡ true → atom_in (UintType bits) (atom_text (Uint n)) ≡ Some (Uint n)
    → cond t (string_in (UintType bits) (cond t (string (atom_text (Uint n))) (number (unsigned n)))) (option_map (λ z. Uint (unsigned_abs z)) (whole_in 0 (2 ^ bits - 1) (cond t (string (atom_text (Uint n))) (number (unsigned n))))) ≡ Some (Uint n)
uint_again true bits n e again = again
uint_again false bits n e again = ap (option_map (λ z. Uint (unsigned_abs z))) (whole_again 0 (2 ^ bits - 1) (pos n) e)

atom_again : (ty : LeafType) (a : Atom) → is_type ty ≡ true → fits ty a ≡ true → plain_in ty (atom_data ty a) ≡ Some a
atom_again TruthType (Truth b) t e = refl
atom_again TruthType (Int n) t e = cc
atom_again TruthType (Uint n) t e = cc
atom_again TruthType (Dec p u) t e = cc
atom_again TruthType (Text s) t e = cc
atom_again (IntType bits) (Truth b) t e = cc
atom_again (IntType bits) (Int n) t e = int_again (bits == 64) bits n e (text_again (IntType bits) (Int n) t e)
atom_again (IntType bits) (Uint n) t e = cc
atom_again (IntType bits) (Dec p u) t e = cc
atom_again (IntType bits) (Text s) t e = cc
atom_again (UintType bits) (Truth b) t e = cc
atom_again (UintType bits) (Int n) t e = cc
atom_again (UintType bits) (Uint n) t e = uint_again (bits == 64) bits n e (text_again (UintType bits) (Uint n) t e)
atom_again (UintType bits) (Dec p u) t e = cc
atom_again (UintType bits) (Text s) t e = cc
atom_again (DecType places) (Truth b) t e = cc
atom_again (DecType places) (Int n) t e = cc
atom_again (DecType places) (Uint n) t e = cc
atom_again (DecType places) (Dec p u) t e = text_again (DecType places) (Dec p u) t e
atom_again (DecType places) (Text s) t e = cc
atom_again TextType (Truth b) t e = cc
atom_again TextType (Int n) t e = cc
atom_again TextType (Uint n) t e = cc
atom_again TextType (Dec p u) t e = cc
atom_again TextType (Text s) t e = text_again TextType (Text s) t e
atom_again (Names names) (Truth b) t e = cc
atom_again (Names names) (Int n) t e = cc
atom_again (Names names) (Uint n) t e = cc
atom_again (Names names) (Dec p u) t e = cc
atom_again (Names names) (Text s) t e = text_again (Names names) (Text s) t e
atom_again EmptyType a t e = cc

plain_again : (ty : LeafType) (a : Atom) → is_type ty ≡ true → fits ty a ≡ true → value_in ty (atom_data ty a) ≡ Some (Plain a)
plain_again TruthType a t e = ap (option_map (λ x. Plain x)) (atom_again TruthType a t e)
plain_again (IntType bits) a t e = ap (option_map (λ x. Plain x)) (atom_again (IntType bits) a t e)
plain_again (UintType bits) a t e = ap (option_map (λ x. Plain x)) (atom_again (UintType bits) a t e)
plain_again (DecType places) a t e = ap (option_map (λ x. Plain x)) (atom_again (DecType places) a t e)
plain_again TextType a t e = ap (option_map (λ x. Plain x)) (atom_again TextType a t e)
plain_again (Names names) a t e = ap (option_map (λ x. Plain x)) (atom_again (Names names) a t e)
plain_again EmptyType a t e = cc

empty_again : (ty : LeafType) → value_fits ty Empty ≡ true → value_in ty (value_data ty Empty) ≡ Some Empty
empty_again TruthType e = cc
empty_again (IntType bits) e = cc
empty_again (UintType bits) e = cc
empty_again (DecType places) e = cc
empty_again TextType e = cc
empty_again (Names names) e = cc
empty_again EmptyType e = refl

-- what is written is read again
pub json_again : (ty : LeafType) (v : Value) → is_type ty ≡ true → value_fits ty v ≡ true → value_in ty (value_data ty v) ≡ Some v
json_again ty (Plain a) t e = plain_again ty a t e
json_again ty Empty t e = empty_again ty e
json_again ty Member t e = cc
json_again ty Present t e = cc
