-- A stream that is replayed has no byte past the most that it may have.
use Rattle.std.proofs.Common.{◌≡◌, ℕ, true, List, [], ◌∷◌, drop, Option, Some, None, Result, Ok, Err, refl}
use Rattle.std.specs.Option.{option_or}
use Rattle.std.specs.Prelude.{is_ok}
use Rattle.yp_schema.specs.declared.schema.SchemaNode.{SchemaNode}
use Rattle.yp_command.specs.Faults.{Said}
use Rattle.yp_decode.specs.declared.line.Heard.{Heard}
use Rattle.yp_decode.specs.declared.fault.StreamFault.{StreamFault}
use Rattle.yp_base.specs.Results.{◌>>=◌}
use Rattle.yp_script.specs.declared.stream.Stream.{Stream}
use Rattle.yp_script.specs.Faults.{LineFault}
use Rattle.yp_script.specs.LimitLaws.{AreWithin, IsWithin, nothing_behind_stream}
use Rattle.yp_script.specs.Lines.{TextLine}
use Rattle.yp_script.specs.Stream.{stream_in}
use Rattle.yp_replay.specs.declared.fault.ReplayFault.{ReplayFault}
use Rattle.yp_replay.specs.Replay.{fault_in, first_fault, replayed, stream_found, stream_replayed, text_fault, unless_fault}

first_none : (one other : Option ReplayFault) → option_or one other ≡ None → (one ≡ None) × (other ≡ None)
first_none None other is = (refl, is)
first_none (Some fault) other is = absurd cc

line_within : (nodes : List SchemaNode) (line : TextLine) → fault_in nodes line ≡ None → IsWithin line
line_within nodes line is = by line.text is
  where
    by : (text : Said (List ℕ)) → text_fault nodes line.number text ≡ None → is_ok text ≡ true
    by (Ok text) is = refl
    by (Err kind) is = absurd cc

-- lines without a fault don't pass it
lines_within : (nodes : List SchemaNode) (lines : List TextLine) → first_fault nodes lines ≡ None → AreWithin lines
lines_within nodes [] is = tt
lines_within nodes (line ∷ lines) is =
    let each = first_none (fault_in nodes line) (first_fault nodes lines) is in
    (line_within nodes line each.0, lines_within nodes lines each.1)

none_told : (fault : Option ReplayFault) (text written : List ℕ) → unless_fault fault written ≡ Ok text → fault ≡ None
none_told None text written is = refl
none_told (Some fault) text written is = absurd cc

-- behind a stream that is replayed nothing is left
pub nothing_behind_replay : (bytes text : List ℕ) → replayed bytes ≡ Ok text → drop 67108865 bytes ≡ []
nothing_behind_replay bytes text is = by (stream_in bytes) refl is
  where
    by : (read : Result Stream LineFault) → stream_in bytes ≡ read → (stream_found read >>= stream_replayed) ≡ Ok text → drop 67108865 bytes ≡ []
    by (Ok stream) found told = nothing_behind_stream bytes stream found (lines_within stream.schema stream.lines (none_told (first_fault stream.schema stream.lines) text _ told))
    by (Err fault) found told = absurd cc
