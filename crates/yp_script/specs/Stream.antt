-- A saved stream: the schema that its first lines make up, and behind it the notification lines of one receiver.
use Rattle.std.specs.Prelude.{ℕ, ◌+◌, List, [], ◌∷◌, length, take, Bool, true, false, Option, Some, None, Result, Ok, Err, if◌then◌else◌, option_and_then, nat_le}
use Rattle.std.specs.Result.{result_ok}
use Rattle.serde_json.specs.Data.{Data}
use Rattle.yp_base.specs.Results.{◌>>=◌}
use Rattle.yp_command.specs.declared.fault.ScriptKind.TheVariants as kinds
use Rattle.yp_command.specs.Faults.{Said}
use Rattle.yp_script.specs.declared.form.Form.{Form}
use Rattle.yp_script.specs.declared.form.Form.TheVariants.{Schema}
use Rattle.yp_script.specs.declared.stage.Stage.TheVariants.{Started}
use Rattle.yp_script.specs.declared.stream.Stream.{Stream}
use Rattle.yp_script.specs.Faults.{LineFault}
use Rattle.yp_script.specs.Forms.{line_form}
use Rattle.yp_value.specs.Json.{json_of}
use Rattle.yp_script.specs.Lines.{TextLine, pieces_of, byte_limit, line_limit, json_in, texts_from}
use Rattle.yp_script.specs.Script.{Progress, no_progress, line_taken, at_line}

-- ---- schema lines

-- the JSON of a line with the limits of a script's lines
abbrev pub json_said : TextLine → Said Data
json_said line = line.text >>= json_in (nat_le line.number line_limit)

abbrev pub is_part_form : Option (Form Data) → Bool
is_part_form (Some (Schema value)) = true
is_part_form other = false

-- whether a line is an object of the one member `schema`, whatever its length and its number
abbrev pub is_part : TextLine → Bool
is_part line = is_part_form (option_and_then line_form (option_and_then json_of (result_ok line.text)))

-- the JSON of such a line with these limits
abbrev pub part_said : TextLine → Option (Said Data)
part_said line = if is_part line then Some (json_said line) else None

-- ---- streams

-- where only a schema line may stand
abbrev pub before_parts : Progress
before_parts = record no_progress { stage = Started }

-- a stream of which this is said, and these notification lines are left
abbrev pub stream_at : Progress → List TextLine → Stream
stream_at progress lines = record { schema = progress.schema; lines = lines }

-- the stream of some progress and of the lines behind it: the first ones are schema lines as long as each is a part, and all others are notification lines
abbrev pub parts_from : Progress → List TextLine → Result Stream LineFault
parts_from progress [] = Ok (stream_at progress [])
parts_from progress (line ∷ lines) =
    if is_part line
    then (at_line line.number (line_taken progress (json_said line)) >>= λ next. parts_from next lines)
    else Ok (stream_at progress (line ∷ lines))

-- the stream of these lines: the first one is a schema line, whatever it holds; without one, the fault is that of the line after the last
abbrev pub stream_from : ℕ → List TextLine → Result Stream LineFault
stream_from end [] = Err (record { line = end; kind = kinds.Order })
stream_from end (first ∷ lines) = at_line first.number (line_taken before_parts (json_said first)) >>= λ progress. parts_from progress lines

-- the stream of a text
abbrev pub stream_of : List ℕ → Result Stream LineFault
stream_of text = stream_from (length (pieces_of text) + 1) (texts_from 0 0 (pieces_of text))

-- the stream of a source's bytes; nothing past the first byte over the limit is looked at, since that byte is a fault of its line
abbrev pub stream_in : List ℕ → Result Stream LineFault
stream_in bytes = stream_of (take (byte_limit + 1) bytes)
