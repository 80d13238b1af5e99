-- Words for the JSON of a script's lines (RFC 8259), each with its fault.
use Rattle.std.specs.Prelude.{ℕ, ◌==◌, ◌&&◌, List, Bool, false, Option, Some, None, option_and_then, Ok, Err, if◌then◌else◌, nat_le}
use Rattle.serde_json.specs.Data.{unsigned, negative, Data, boolean, number, object, Members, no_members, member}
use Rattle.serde_json.specs.Find.{as_str}
use Rattle.serde_json.specs.Events.{members_len}
use Rattle.yp_value.specs.Json.{member_of}
use Rattle.yp_base.specs.Types.{same_text}
use Rattle.yp_command.specs.declared.fault.ScriptKind.TheVariants.{Member, Limit}
use Rattle.yp_command.specs.Faults.{Said}

-- whether it is an object of so many members
abbrev pub has_count : ℕ → Data → Bool
has_count many (object ms) = members_len ms == many
has_count many other = false

-- the first member of an object: its name and its value
abbrev pub first_member : Members → Option (List ℕ × Data)
first_member no_members = None
first_member (member name value more) = Some (name, value)

-- the only member of an object that has just one
abbrev pub sole_member : Data → Option (List ℕ × Data)
sole_member (object (member name value no_members)) = Some (name, value)
sole_member other = None

-- the text that a member of this name is
abbrev pub text_at : List ℕ → Data → Option (List ℕ)
text_at name json = option_and_then as_str (member_of name json)

abbrev pub is_text : Option (List ℕ) → List ℕ → Bool
is_text None word = false
is_text (Some text) word = same_text text word

-- whether a member is this text
abbrev pub says : List ℕ → List ℕ → Data → Bool
says name word json = is_text (text_at name json) word

-- what passes a test
abbrev pub where_true : {X : Type 0} → (X → Bool) → Option X → Option X
where_true test None = None
where_true test (Some x) = if test x then Some x else None

-- a whole number within bounds; a float, and so a number past 64 bits or with a fraction, is of a wrong kind
abbrev pub whole_said : ℕ → ℕ → Data → Said ℕ
whole_said low high (number (unsigned n)) = if nat_le low n && nat_le n high then Ok n else Err Limit
whole_said low high (number (negative z)) = Err Limit
whole_said low high other = Err Member

-- a whole number within bounds that may not be left out
abbrev pub whole_there : ℕ → ℕ → Option Data → Said ℕ
whole_there low high None = Err Member
whole_there low high (Some json) = whole_said low high json

-- whether it is the word `true`
abbrev pub is_yes : Data → Bool
is_yes (boolean b) = b
is_yes other = false
