-- A place between two lines of a text.
use Rattle.std.specs.Prelude.{◌≡◌, ℕ, ◌+◌, List, [], ◌∷◌, length, Option, Some, None}
use Rattle.serde_json.specs.View.{view}
use Rattle.yp_command.specs.Faults.{said_map}
use Rattle.yp_script.specs.declared.cursor.Lines.{Lines}
use Rattle.yp_script.specs.declared.cursor.Line.{Line as FoundLine}
use Rattle.yp_script.specs.declared.cursor.TextLine.{TextLine as FoundText}
use Rattle.yp_script.specs.Lines.{Line, TextLine, pieces_of, lines_from, texts_from}

-- the lines behind the place
abbrev pub lines_left : Lines → List Line
lines_left place = lines_from place.number place.at (pieces_of place.rest.now)

-- the number of the text's last line
abbrev pub last_number : Lines → ℕ
last_number place = place.number + length (pieces_of place.rest.now)

abbrev pub seen_line : FoundLine → Line
seen_line line = record { number = line.number; json = said_map view line.json }

-- the line that was found is the first that is left, and the others are left behind it
abbrev pub Finds : Option FoundLine → List Line → List Line → Type 0
Finds None before after = before ≡ []
Finds (Some line) before after = before ≡ seen_line line ∷ after

-- ---- lines as they stand

-- the lines behind the place, with their texts
abbrev pub texts_left : Lines → List TextLine
texts_left place = texts_from place.number place.at (pieces_of place.rest.now)

abbrev pub seen_text : FoundText → TextLine
seen_text line = record { number = line.number; text = said_map (λ text. text.now) line.text }

-- the line that was found is the first of these, and the others are left behind it
abbrev pub FindsText : Option FoundText → List TextLine → List TextLine → Type 0
FindsText None before after = before ≡ []
FindsText (Some line) before after = before ≡ seen_text line ∷ after
