-- JSON values that are handed on.
use Rattle.serde_json.specs.Data.{unsigned, Data, null, boolean, number, string, object, no_members, member}
use Rattle.serde_json.specs.Find.{of_integer}
use Rattle.serde_json.specs.Read.{read}
use Rattle.std.specs.Prelude.{ℕ, List, IsSome, unwrap_or, ⊤}
use Rattle.yp_value.specs.declared.payload.Kept.{Kept}
use Rattle.yp_value.specs.declared.payload.Kept.TheVariants.{Compact, Member}
use Rattle.yp_value.specs.declared.payload.Scalar.{Scalar}
use Rattle.yp_value.specs.declared.payload.Scalar.TheVariants.{Text, Whole, Negative, Truth}

-- what a text reads as, or null where it reads as none
abbrev pub data_in : List ℕ → Data
data_in text = unwrap_or (read text) null

-- a text that is kept reads as data
abbrev pub IsReadable : List ℕ → Type 0
IsReadable text = IsSome (read text)

-- what a scalar is
abbrev pub scalar_data : Scalar → Data
scalar_data (Text text) = string text
scalar_data (Whole n) = number (unsigned n)
scalar_data (Negative z) = number (of_integer z)
scalar_data (Truth b) = boolean b

-- what is kept: the data that a text reads as, or an object of one member
abbrev pub kept_data : Kept → Data
kept_data (Compact text) = data_in text
kept_data (Member name value) = object (member name (scalar_data value) no_members)

-- a text that is kept reads as data, and a member needs nothing
abbrev pub IsKept : Kept → Type 0
IsKept (Compact text) = IsReadable text
IsKept (Member name value) = ⊤
