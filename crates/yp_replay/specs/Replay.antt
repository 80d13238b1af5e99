-- The replay of a saved stream: the trees that a receiver makes of its lines alone (RFC 8641 section 3.7), or the first line with a fault.
use Rattle.std.specs.Prelude.{ℕ, List, [], ◌∷◌, ◌++◌, Option, Some, None, Result, Ok, Err, codes, decimal}
use Rattle.std.specs.List.{filter_map, flat_map}
use Rattle.std.specs.Option.{option_or}
use Rattle.std.specs.Result.{result_ok}
use Rattle.serde_json.specs.Written.{compact_text}
use Rattle.yp_base.specs.declared.row.Row.{Row}
use Rattle.yp_base.specs.Results.{◌>>=◌}
use Rattle.yp_schema.specs.declared.schema.SchemaNode.{SchemaNode}
use Rattle.yp_data_json.specs.Writing.{rows_json}
use Rattle.yp_command.specs.Faults.{Said}
use Rattle.yp_decode.specs.declared.fault.StreamFault.{StreamFault}
use Rattle.yp_decode.specs.declared.line.Heard.{Heard}
use Rattle.yp_decode.specs.Grammar.{line_heard}
use Rattle.yp_receiver.specs.Held.{lines_heard}
use Rattle.yp_script.specs.declared.stream.Stream.{Stream}
use Rattle.yp_script.specs.Faults.{LineFault}
use Rattle.yp_script.specs.Lines.{TextLine}
use Rattle.yp_script.specs.Stream.{stream_in}
use Rattle.yp_replay.specs.declared.fault.ReplayFault.{ReplayFault}
use Rattle.yp_replay.specs.declared.fault.ReplayFault.TheVariants.{Script}
use Rattle.yp_replay.specs.Faults.{line_fault, script_fault}

-- ---- faults

-- the fault of a notification line of this number that tells this
abbrev pub fault_heard : ℕ → Result Heard StreamFault → Option ReplayFault
fault_heard number (Ok heard) = None
fault_heard number (Err fault) = Some (line_fault number fault)

-- the same of its text; past the limit of bytes it is a script's fault
abbrev pub text_fault : List SchemaNode → ℕ → Said (List ℕ) → Option ReplayFault
text_fault nodes number (Ok text) = fault_heard number (line_heard nodes text)
text_fault nodes number (Err kind) = Some (Script number kind)

-- the fault of a notification line
abbrev pub fault_in : List SchemaNode → TextLine → Option ReplayFault
fault_in nodes line = text_fault nodes line.number line.text

-- the fault of the first of these lines that has one
abbrev pub first_fault : List SchemaNode → List TextLine → Option ReplayFault
first_fault nodes [] = None
first_fault nodes (line ∷ lines) = option_or (fault_in nodes line) (first_fault nodes lines)

-- ---- trees

-- the texts of lines
abbrev pub line_texts : List TextLine → List (List ℕ)
line_texts lines = filter_map (λ line. result_ok line.text) lines

-- the line of what is held of a subscription, by its id
unfoldable pub tree_line : List SchemaNode → ℕ × List Row → List ℕ
tree_line nodes held = codes "tree " ++ decimal held.0 ++ codes " " ++ compact_text (rows_json nodes [] held.1) ++ codes "\n"

-- the text of all that is held
abbrev pub trees_text : List SchemaNode → List (ℕ × List Row) → List ℕ
trees_text nodes held = flat_map (tree_line nodes) held ++ codes "end\n"

-- ---- replays

-- a text, unless there is a fault
abbrev pub unless_fault : Option ReplayFault → List ℕ → Result (List ℕ) ReplayFault
unless_fault None text = Ok text
unless_fault (Some fault) text = Err fault

-- what is written of a stream: what a receiver holds after its lines, of which none has a fault
abbrev pub stream_replayed : Stream → Result (List ℕ) ReplayFault
stream_replayed stream = unless_fault (first_fault stream.schema stream.lines) (trees_text stream.schema (lines_heard stream.schema [] (line_texts stream.lines)))

-- a stream, or the fault of its first lines
abbrev pub stream_found : Result Stream LineFault → Result Stream ReplayFault
stream_found (Ok stream) = Ok stream
stream_found (Err fault) = Err (script_fault fault)

-- what is written of the stream that these bytes are
abbrev pub replayed : List ℕ → Result (List ℕ) ReplayFault
replayed bytes = stream_found (stream_in bytes) >>= stream_replayed
