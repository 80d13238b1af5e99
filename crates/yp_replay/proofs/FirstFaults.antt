-- What a receiver hears of lines, and the first fault of them.
use Rattle.std.proofs.Common.{◌≡◌, ℕ, List, [], ◌∷◌, Option, None, Result, Ok, Err, refl, sym, ap, subst, ◌∙◌}
use Rattle.std.specs.List.{cons_option}
use Rattle.std.specs.Option.{option_or}
use Rattle.std.specs.Prelude.{string_bytes}
use Rattle.std.specs.Result.{result_ok}
use Rattle.std.specs.declared.string.String.{String}
use Rattle.yp_base.specs.declared.row.Row.{Row}
use Rattle.yp_base.specs.Results.{◌>>=◌}
use Rattle.yp_schema.specs.declared.schema.SchemaNode.{SchemaNode}
use Rattle.yp_command.specs.Faults.{Said}
use Rattle.yp_decode.specs.declared.fault.StreamFault.{StreamFault}
use Rattle.yp_decode.specs.declared.fault.StreamFault.TheVariants as lines
use Rattle.yp_decode.specs.declared.line.Heard.{Heard}
use Rattle.yp_decode.specs.Grammar.{line_heard}
use Rattle.yp_decode.specs.Readings as decoding
use Rattle.yp_receiver.specs.Held.{IsTaken, told, lines_heard}
use Rattle.yp_script.specs.declared.fault.ScriptFault.{ScriptFault}
use Rattle.yp_script.specs.declared.fault.ScriptFault.TheVariants as scripts
use Rattle.yp_script.specs.declared.stream.Stream.{Stream as Saved}
use Rattle.yp_script.specs.Faults.{LineFault}
use Rattle.yp_script.specs.Lines.{TextLine}
use Rattle.yp_script.specs.Readings.{IsFault}
use Rattle.yp_replay.specs.declared.fault.ReplayFault.{ReplayFault}
use Rattle.yp_replay.specs.declared.fault.ReplayFault.TheVariants.{Script, Stream, Memory}
use Rattle.yp_replay.specs.Faults.{line_fault, first_lines_fault}
use Rattle.yp_replay.specs.Readings.{Fails, Gives, IsFirstFault}
use Rattle.yp_replay.specs.Replay.{fault_heard, fault_in, first_fault, line_texts, trees_text, unless_fault, stream_replayed, stream_found}

-- ---- a line

-- a line that was taken was heard
pub taken_heard : (nodes : List SchemaNode) (text : List ℕ) (before after : List (ℕ × List Row)) → IsTaken nodes text before after → after ≡ lines_heard nodes before (text ∷ [])
taken_heard nodes text before after taken = taken.leaves ∙ sym (ap (λ (r : Result Heard StreamFault). told r before) taken.tells)

-- and has no fault
pub taken_whole : (nodes : List SchemaNode) (number : ℕ) (text : List ℕ) (before after : List (ℕ × List Row)) → IsTaken nodes text before after → fault_heard number (line_heard nodes text) ≡ None
taken_whole nodes number text before after taken = ap (fault_heard number) taken.tells

-- a fault of a line is the one that is told of it
pub told_fault : (number : ℕ) (fault : StreamFault) (r : Result Heard StreamFault) → decoding.Fails fault r → IsFirstFault (line_fault number fault) (fault_heard number r)
told_fault number lines.NotJson r is = ap (fault_heard number) is
told_fault number lines.Envelope r is = ap (fault_heard number) is
told_fault number lines.UnknownNotice r is = ap (fault_heard number) is
told_fault number lines.Member r is = ap (fault_heard number) is
told_fault number (lines.Target fault) r is = ap (fault_heard number) is
told_fault number (lines.Data fault) r is = ap (fault_heard number) is
told_fault number lines.Memory r is = tt

-- ---- lines

heard_on : (nodes : List SchemaNode) (held : List (ℕ × List Row)) (text : Said (List ℕ)) (texts : List (List ℕ))
    → lines_heard nodes held (cons_option (result_ok text) texts) ≡ lines_heard nodes (lines_heard nodes held (cons_option (result_ok text) [])) texts
heard_on nodes held (Ok text) texts = refl
heard_on nodes held (Err kind) texts = refl

-- what is heard of a line and of those behind it
pub heard_first : (nodes : List SchemaNode) (before after : List (ℕ × List Row)) (line : TextLine) (left rest : List TextLine) → left ≡ line ∷ rest → after ≡ lines_heard nodes before (line_texts (line ∷ []))
    → lines_heard nodes after (line_texts rest) ≡ lines_heard nodes before (line_texts left)
heard_first nodes before after line left rest first heard =
    ap (λ (held : List (ℕ × List Row)). lines_heard nodes held (line_texts rest)) heard
    ∙ sym (heard_on nodes before line.text (line_texts rest))
    ∙ ap (λ (lines : List TextLine). lines_heard nodes before (line_texts lines)) (sym first)

-- a line without a fault leaves that of those behind it
pub whole_first : (nodes : List SchemaNode) (line : TextLine) (left rest : List TextLine) → left ≡ line ∷ rest → fault_in nodes line ≡ None → first_fault nodes rest ≡ first_fault nodes left
whole_first nodes line left rest first whole =
    sym (ap (first_fault nodes) first ∙ ap (λ (fault : Option ReplayFault). option_or fault (first_fault nodes rest)) whole)

fails_along : (fault : ReplayFault) (a b : Option ReplayFault) → a ≡ b → IsFirstFault fault b → IsFirstFault fault a
fails_along fault a b same is = subst (λ (o : Option ReplayFault). IsFirstFault fault o) (sym same) is

fails_or : (fault : ReplayFault) (a b : Option ReplayFault) → IsFirstFault fault a → IsFirstFault fault (option_or a b)
fails_or (Script line kind) a b is = ap (λ (o : Option ReplayFault). option_or o b) is
fails_or (Stream line kind) a b is = ap (λ (o : Option ReplayFault). option_or o b) is
fails_or Memory a b is = tt

-- and one with a fault has the first
pub fails_first : (nodes : List SchemaNode) (fault : ReplayFault) (line : TextLine) (left rest all : List TextLine) → left ≡ line ∷ rest → first_fault nodes left ≡ first_fault nodes all → IsFirstFault fault (fault_in nodes line)
    → IsFirstFault fault (first_fault nodes all)
fails_first nodes fault line left rest all first same is =
    fails_along fault (first_fault nodes all) (option_or (fault_in nodes line) (first_fault nodes rest)) (sym same ∙ ap (first_fault nodes) first) (fails_or fault (fault_in nodes line) (first_fault nodes rest) is)

-- ---- streams

-- the text of what is held after lines without a fault
pub stream_given : {A : Type 0} (stream : Saved) (held : List (ℕ × List Row)) (text : String A) → first_fault stream.schema stream.lines ≡ None → held ≡ lines_heard stream.schema [] (line_texts stream.lines)
    → string_bytes text ≡ trees_text stream.schema held → Gives (Ok text) (stream_replayed stream)
stream_given stream held text whole heard is =
    ap (λ (fault : Option ReplayFault). unless_fault fault (trees_text stream.schema (lines_heard stream.schema [] (line_texts stream.lines)))) whole
    ∙ ap (λ (each : List (ℕ × List Row)). Ok (trees_text stream.schema each)) (sym heard)
    ∙ ap (λ (bytes : List ℕ). Ok bytes) (sym is)

-- the first fault of its lines
pub stream_fails : (stream : Saved) (fault : ReplayFault) → IsFirstFault fault (first_fault stream.schema stream.lines) → Fails fault (stream_replayed stream)
stream_fails stream (Script line kind) is = ap (λ (o : Option ReplayFault). unless_fault o (trees_text stream.schema (lines_heard stream.schema [] (line_texts stream.lines)))) is
stream_fails stream (Stream line kind) is = ap (λ (o : Option ReplayFault). unless_fault o (trees_text stream.schema (lines_heard stream.schema [] (line_texts stream.lines)))) is
stream_fails stream Memory is = tt

-- the replay of a stream that was found
pub found_given : {A : Type 0} (result : Result (String A) ReplayFault) (read : Result Saved LineFault) (stream : Saved) → read ≡ Ok stream → Gives result (stream_replayed stream) → Gives result (stream_found read >>= stream_replayed)
found_given result read stream is given = subst (λ (r : Result Saved LineFault). Gives result (stream_found r >>= stream_replayed)) (sym is) given

-- the fault of one that wasn't
pub found_fails : (fault : ScriptFault) (read : Result Saved LineFault) → IsFault fault read → Fails (first_lines_fault fault) (stream_found read >>= stream_replayed)
found_fails (scripts.At line kind) read is = ap (λ (r : Result Saved LineFault). stream_found r >>= stream_replayed) is
found_fails scripts.Memory read is = tt
