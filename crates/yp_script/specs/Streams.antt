-- What readers of a stream hold, and which lines they find.
use Rattle.std.specs.Prelude.{◌≡◌, ℕ, List, [], ◌∷◌, Bool, true, false, Option, Some, None, Result, Ok, Err}
use Rattle.yp_base.specs.Results.{◌>>=◌}
use Rattle.yp_script.specs.declared.cursor.Line.{Line as FoundLine}
use Rattle.yp_script.specs.declared.fault.ScriptFault.{ScriptFault}
use Rattle.yp_script.specs.declared.fault.ScriptFault.TheVariants.{At, Memory}
use Rattle.yp_script.specs.declared.reader.Reader.{Reader}
use Rattle.yp_script.specs.declared.stream.Stream.{Stream}
use Rattle.yp_script.specs.Cursor.{seen_line}
use Rattle.yp_script.specs.Faults.{LineFault}
use Rattle.yp_script.specs.Lines.{Line, TextLine}
use Rattle.yp_script.specs.Readers.{progress_in}
use Rattle.yp_script.specs.Stream.{is_part, json_said, parts_from, stream_at, stream_from}

-- ---- streams

-- the stream of what a reader holds and of these lines, of which the first ones may be parts of the schema
abbrev pub stream_by : Reader → List TextLine → Result Stream LineFault
stream_by reader lines = progress_in reader >>= λ progress. parts_from progress lines

-- the same where these are the notification lines
abbrev pub stream_behind : Reader → List TextLine → Result Stream LineFault
stream_behind reader lines = progress_in reader >>= λ progress. Ok (stream_at progress lines)

-- ---- lines

-- a line as one of a script
abbrev pub part_line : TextLine → Line
part_line line = record { number = line.number; json = json_said line }

-- whether these lines begin with a part of the schema
abbrev pub begin_with_part : List TextLine → Bool
begin_with_part [] = false
begin_with_part (line ∷ lines) = is_part line

-- the first of these lines is this part of the schema, and the others are left behind it
pub record IsNextPart (found : FoundLine) (before after : List TextLine) : Type 0 where
  pub line : TextLine
  pub first : before ≡ line ∷ after
  pub part : is_part line ≡ true
  pub said : seen_line found ≡ part_line line

-- it was found, or there is none and all lines are left
abbrev pub FindsPart : Option FoundLine → List TextLine → List TextLine → Type 0
FindsPart None before after = (begin_with_part before ≡ false) × (after ≡ before)
FindsPart (Some found) before after = IsNextPart found before after

-- the first of these lines, and the others are left behind it
pub record IsFirst (found : FoundLine) (before after : List TextLine) : Type 0 where
  pub line : TextLine
  pub first : before ≡ line ∷ after
  pub said : seen_line found ≡ part_line line

-- it was found, or the fault is that of a stream without lines, whose last line has the number before this one
abbrev pub Opens : Result FoundLine ScriptFault → ℕ → List TextLine → List TextLine → Type 0
Opens (Ok found) end before after = IsFirst found before after
Opens (Err (At line kind)) end before after = stream_from end before ≡ Err (record { line = line; kind = kind })
Opens (Err Memory) end before after = Unit {0}
