-- The lines of a script: text between line feeds, numbered from 1, each one JSON text (RFC 8259).
use Rattle.std.specs.Prelude.{ℕ, ◌+◌, ◌==◌, ◌&&◌, ◌||◌, List, [], ◌∷◌, length, Bool, true, Ok, Err, if◌then◌else◌, nat_le}
use Rattle.serde_json.specs.Data.{Data}
use Rattle.yp_base.specs.Cuts.{cut_after}
use Rattle.yp_base.specs.Results.{or_fault}
use Rattle.yp_command.specs.declared.fault.ScriptKind.TheVariants.{TooLong, NotJson, Limit}
use Rattle.yp_command.specs.Faults.{Said}
use Rattle.yp_value.specs.Json.{json_of}

-- a text cut after each line feed; the last piece may lack one
abbrev pub pieces_of : List ℕ → List (List ℕ)
pieces_of text = cut_after 10 text

-- a line without its line feed
abbrev pub without_feed : List ℕ → List ℕ
without_feed [] = []
without_feed (b ∷ bytes) = if b == 10 then [] else b ∷ without_feed bytes

-- blanks, tabs and carriage returns alone
abbrev pub is_blank : List ℕ → Bool
is_blank [] = true
is_blank (b ∷ bytes) = (b == 32 || b == 9 || b == 13) && is_blank bytes

-- a script has this many bytes at most
abbrev pub byte_limit : ℕ
byte_limit = 67108864

-- and this many lines
abbrev pub line_limit : ℕ
line_limit = 100000

-- whether a line of this number that ends behind so many bytes lies within the limits of a script
abbrev pub is_in_script : ℕ → ℕ → Bool
is_in_script number end = nat_le number line_limit && nat_le end byte_limit

-- the JSON of a line, where it lies within the limits of a script, isn't too long and is JSON: the limits of lines and bytes come before all else
abbrev pub json_in : Bool → List ℕ → Said Data
json_in within text =
    if within then (if nat_le (length text) 65536 then or_fault NotJson (json_of text) else Err TooLong) else Err Limit

-- a line that says something: its number, and its JSON
pub record Line : Type 0 where
  pub number : ℕ
  pub json : Said Data

-- the lines of pieces that stand behind so many lines and bytes; blank lines within the limits are skipped, and counted
abbrev pub lines_from : ℕ → ℕ → List (List ℕ) → List Line
lines_from number at [] = []
lines_from number at (piece ∷ pieces) =
    if is_in_script (number + 1) (at + length piece) && is_blank (without_feed piece)
    then lines_from (number + 1) (at + length piece) pieces
    else record { number = number + 1; json = json_in (is_in_script (number + 1) (at + length piece)) (without_feed piece) } ∷ lines_from (number + 1) (at + length piece) pieces

-- ---- lines as they stand

-- a line with its text, or with the fault of the line in which the first byte past the limit lies
pub record TextLine : Type 0 where
  pub number : ℕ
  pub text : Said (List ℕ)

-- the text of a line, where it lies within the limit of bytes
abbrev pub text_in : Bool → List ℕ → Said (List ℕ)
text_in within text = if within then Ok text else Err Limit

-- the same lines with their texts, without a limit on their length or their number: blank lines within the limit of bytes are skipped, and counted
abbrev pub texts_from : ℕ → ℕ → List (List ℕ) → List TextLine
texts_from number at [] = []
texts_from number at (piece ∷ pieces) =
    if nat_le (at + length piece) byte_limit && is_blank (without_feed piece)
    then texts_from (number + 1) (at + length piece) pieces
    else record { number = number + 1; text = text_in (nat_le (at + length piece) byte_limit) (without_feed piece) } ∷ texts_from (number + 1) (at + length piece) pieces
