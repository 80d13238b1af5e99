-- JSON of which a text is read again: its text without white space is one JSON text (RFC 8259), and no other JSON has it.
use Rattle.std.specs.Prelude.{◌≡◌, ◌<◌, ◌^◌, pos, negsuc, List, Bool, true, IsUtf8}
use Rattle.std.specs.List.{AllByRecursion}
use Rattle.std.specs.Str.{is_utf8}
use Rattle.serde_json.specs.Data.{Num, unsigned, negative, float, Data, null, boolean, number, string, array, object, Items, no_items, item, Members, no_members, member}
use Rattle.yp_base.specs.declared.row.Row.{Row}
use Rattle.yp_base.specs.declared.row.Value.{Value}
use Rattle.yp_base.specs.declared.row.Value.TheVariants.{Atom as Plain, Member, Empty, Present}
use Rattle.yp_value.specs.Texts.{atom_text}
use Rattle.yp_path.specs.Targets.{has_texts}
use Rattle.yp_data_json.specs.Runs.{StandsBefore}

-- an integer of 64 bits; a negative one is written with its sign
abbrev pub IsWhole : Num → Type 0
IsWhole (unsigned n) = n < 2 ^ 64
IsWhole (negative (pos n)) = ⊥
IsWhole (negative (negsuc n)) = n < 2 ^ 63
IsWhole (float x) = ⊥

-- numbers are integers of 64 bits, texts are UTF-8, and the members of each object stand in the order of their names, none twice
abbrev mutual
  pub IsReadable : Data → Type 0
  IsReadable null = Unit {0}
  IsReadable (boolean b) = Unit {0}
  IsReadable (number n) = IsWhole n
  IsReadable (string s) = IsUtf8 s
  IsReadable (array ds) = ItemsAreReadable ds
  IsReadable (object ms) = MembersAreReadable ms

  pub ItemsAreReadable : Items → Type 0
  ItemsAreReadable no_items = Unit {0}
  ItemsAreReadable (item d ds) = IsReadable d × ItemsAreReadable ds

  pub MembersAreReadable : Members → Type 0
  MembersAreReadable no_members = Unit {0}
  MembersAreReadable (member k d ms) = IsUtf8 k × (StandsBefore k ms × (IsReadable d × MembersAreReadable ms))

-- ---- rows

-- whether the canonical text of a value is UTF-8, as the texts of all values are
abbrev pub has_value_text : Value → Bool
has_value_text (Plain atom) = is_utf8 (atom_text atom)
has_value_text Member = true
has_value_text Empty = true
has_value_text Present = true

-- rows whose keys and values have texts that are UTF-8
abbrev pub HaveTexts : List Row → Type 0
HaveTexts rows = AllByRecursion (λ (row : Row). (has_texts row.path ≡ true) × (has_value_text row.value ≡ true)) rows
