-- JSON of values (RFC 7951 section 6): which is read, and what is written.
use Rattle.std.specs.Prelude.{unsigned_abs, ℕ, ◌-◌, ◌^◌, ◌==◌, ℤ, List, [], ◌∷◌, Bool, true, false, Option, Some, None, option_map, option_and_then, is_some, length, if◌then◌else◌}
use Rattle.std.specs.Borrow.{Bor}
use Rattle.std.specs.Str.Lossy.{utf8_valid_len}
use Rattle.serde_json.specs.Data.{unsigned, Data, null, boolean, number, string, array, Items, no_items, item, Members}
use Rattle.serde_json.specs.Find.{get, get_member, as_null, as_bool, as_number, as_str, as_integer, of_integer}
use Rattle.serde_json.specs.Read.{read}
use Rattle.serde_json.specs.View.{view}
use Rattle.serde_json.specs.declared.value.Value.{Value as Json}
use Rattle.yp_base.specs.declared.atom.Atom.{Atom}
use Rattle.yp_base.specs.declared.atom.Atom.TheVariants.{Bool as Truth, Int, Uint, Dec, Text}
use Rattle.yp_base.specs.declared.leaf_type.LeafType.{LeafType}
use Rattle.yp_base.specs.declared.leaf_type.LeafType.TheVariants.{Bool as TruthType, Int as IntType, Uint as UintType, Dec as DecType, Text as TextType, Names, Empty as EmptyType}
use Rattle.yp_base.specs.declared.row.Value.{Value}
use Rattle.yp_base.specs.declared.row.Value.TheVariants.{Atom as Plain, Member, Empty, Present}
use Rattle.yp_value.specs.Texts.{atom_in, atom_text, fits, is_between}

-- the member of an object that has this name
abbrev pub member_of : List ℕ → Data → Option Data
member_of name json = get name json

-- the text that a member of this name is
abbrev pub text_member : List ℕ → Members → Option (List ℕ)
text_member name members = option_and_then as_str (get_member name members)

-- the texts of an array, where it holds nothing else
abbrev pub texts_in : Items → Option (List (List ℕ))
texts_in no_items = Some []
texts_in (item d ds) = option_and_then (λ text. option_map (λ texts. text ∷ texts) (texts_in ds)) (as_str d)

-- a member that was found, as a contract sees it
abbrev pub seen_member : Bor (List ℕ) × Bor Json → List ℕ × Data
seen_member found = (found.0.now, view found.1.now)

-- the JSON value that a text is, if it is UTF-8 and one JSON text (RFC 8259)
abbrev pub json_of : List ℕ → Option Data
json_of text = if utf8_valid_len text == length text then read text else None

-- a whole number from -low to high, held as one: `1.0`, `1e3` and `-0` are floats
abbrev pub whole_in : ℕ → ℕ → Data → Option ℤ
whole_in low high json = option_and_then (λ n. if is_between low high n then Some n else None) (option_and_then as_integer (as_number json))

-- a string, read as a text
abbrev pub string_in : LeafType → Data → Option Atom
string_in ty json = option_and_then (atom_in ty) (as_str json)

-- the atom that JSON is read as: integers of 64 bits, decimals, strings and enumerations are strings (RFC 7951 sections 6.1 to 6.4)
abbrev pub plain_in : LeafType → Data → Option Atom
plain_in TruthType json = option_map (λ truth. Truth truth) (as_bool json)
plain_in (IntType bits) json = if bits == 64 then string_in (IntType bits) json else option_map (λ n. Int n) (whole_in (2 ^ (bits - 1)) (2 ^ (bits - 1) - 1) json)
plain_in (UintType bits) json = if bits == 64 then string_in (UintType bits) json else option_map (λ n. Uint (unsigned_abs n)) (whole_in 0 (2 ^ bits - 1) json)
plain_in (DecType places) json = string_in (DecType places) json
plain_in TextType json = string_in TextType json
plain_in (Names names) json = string_in (Names names) json
plain_in EmptyType json = None

-- whether it is an array of one null (RFC 7951 section 6.9)
abbrev pub is_one_null : Items → Bool
is_one_null no_items = false
is_one_null (item json no_items) = is_some (as_null json)
is_one_null (item json (item next rest)) = false

abbrev pub is_null_array : Data → Bool
is_null_array (array items) = is_one_null items
is_null_array other = false

-- the value that JSON is read as, by the type
abbrev pub value_in : LeafType → Data → Option Value
value_in EmptyType json = if is_null_array json then Some Empty else None
value_in ty json = option_map (λ atom. Plain atom) (plain_in ty json)

-- whether numbers of the type are written as strings
abbrev pub has_string_numbers : LeafType → Bool
has_string_numbers (IntType bits) = bits == 64
has_string_numbers (UintType bits) = bits == 64
has_string_numbers other = false

-- the JSON of an atom
abbrev pub atom_data : LeafType → Atom → Data
atom_data ty (Truth truth) = boolean truth
atom_data ty (Int n) = if has_string_numbers ty then string (atom_text (Int n)) else number (of_integer n)
atom_data ty (Uint n) = if has_string_numbers ty then string (atom_text (Uint n)) else number (unsigned n)
atom_data ty (Dec places units) = string (atom_text (Dec places units))
atom_data ty (Text text) = string text

-- the JSON of a value; a row of a list entry or of a presence container has none of its own
abbrev pub value_data : LeafType → Value → Data
value_data ty (Plain atom) = atom_data ty atom
value_data ty Empty = array (item null no_items)
value_data ty Member = null
value_data ty Present = null

abbrev pub is_empty_type : LeafType → Bool
is_empty_type EmptyType = true
is_empty_type other = false

-- whether a value is one of the type
abbrev pub value_fits : LeafType → Value → Bool
value_fits ty (Plain atom) = fits ty atom
value_fits ty Empty = is_empty_type ty
value_fits ty Member = false
value_fits ty Present = false
