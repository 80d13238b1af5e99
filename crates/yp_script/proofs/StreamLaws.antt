-- Steps of a reader over the first lines of a stream.
use Rattle.std.proofs.Common.{◌≡◌, ℕ, true, false, cond, List, [], ◌∷◌, Some, None, Result, Ok, refl, sym, ap, ◌∙◌}
use Rattle.serde_json.specs.Data.{Data}
use Rattle.serde_json.specs.declared.value.Value.{Value}
use Rattle.serde_json.specs.View.{view}
use Rattle.yp_base.specs.Results.{◌>>=◌, bind_same}
use Rattle.yp_schema.specs.declared.schema.SchemaNode.{SchemaNode}
use Rattle.yp_command.specs.declared.fault.ScriptKind.{ScriptKind}
use Rattle.yp_command.specs.Faults.{Said, said_map}
use Rattle.yp_script.specs.declared.cursor.Line.{Line as FoundLine}
use Rattle.yp_script.specs.declared.cursor.TextLine.{TextLine as FoundText}
use Rattle.yp_script.specs.declared.fault.ScriptFault.{ScriptFault}
use Rattle.yp_script.specs.declared.reader.Reader.{Reader}
use Rattle.yp_script.specs.Cursor.{seen_line, seen_text}
use Rattle.yp_script.specs.Faults.{LineFault}
use Rattle.yp_script.specs.Lines.{Line, TextLine}
use Rattle.yp_script.specs.Readings.{IsFault}
use Rattle.yp_script.specs.Readers.{progress_with, schema_in, progress_in, progress_by}
use Rattle.yp_script.specs.Script.{Progress, line_taken, at_line}
use Rattle.yp_script.specs.Stream.{is_part, json_said, part_said, before_parts, stream_at, parts_from, stream_from}
use Rattle.yp_script.specs.Streams.{stream_by, stream_behind, begin_with_part, IsNextPart, IsFirst}
use Rattle.yp_script.proofs.PartLaws.{bound_twice}
use Rattle.yp_script.proofs.StepLaws.{fault_then, fault_along}

-- what a reader holds once it took a line
abbrev pub taken_by : Reader → FoundLine → Result Progress LineFault
taken_by reader found = progress_by reader found.number (λ progress. line_taken progress (seen_line found).json)

-- ---- the first line

pub first_by : (reader : Reader) (found : FoundLine) (end : ℕ) (left rest : List TextLine) → IsFirst found left rest → progress_in reader ≡ Ok before_parts
    → stream_from end left ≡ (taken_by reader found >>= λ progress. parts_from progress rest)
first_by reader found end left rest first is =
    ap (stream_from end) first.first
    ∙ ap (λ (line : Line). at_line line.number (line_taken before_parts line.json) >>= λ progress. parts_from progress rest) (sym first.said)
    ∙ ap (λ (r : Result Progress LineFault). (r >>= λ progress. at_line found.number (line_taken progress (seen_line found).json)) >>= λ progress. parts_from progress rest) (sym is)

-- a reader that took it
pub first_taken : (before after : Reader) (found : FoundLine) (end : ℕ) (left rest : List TextLine) → IsFirst found left rest → progress_in before ≡ Ok before_parts → taken_by before found ≡ progress_in after
    → stream_by after rest ≡ stream_from end left
first_taken before after found end left rest first is steps =
    ap (λ (r : Result Progress LineFault). r >>= λ progress. parts_from progress rest) (sym steps) ∙ sym (first_by before found end left rest first is)

-- its fault
pub first_fails : (fault : ScriptFault) (reader : Reader) (found : FoundLine) (end : ℕ) (left rest : List TextLine) → IsFirst found left rest → progress_in reader ≡ Ok before_parts → IsFault fault (taken_by reader found)
    → IsFault fault (stream_from end left)
first_fails fault reader found end left rest first is fails =
    fault_along fault (stream_from end left) (taken_by reader found >>= λ progress. parts_from progress rest) (first_by reader found end left rest first is)
    (fault_then fault (taken_by reader found) (λ progress. parts_from progress rest) fails)

-- ---- the other lines of the schema

part_by : (reader : Reader) (part : FoundLine) (left rest : List TextLine) → IsNextPart part left rest → stream_by reader left ≡ (taken_by reader part >>= λ progress. parts_from progress rest)
part_by reader part left rest next =
    ap (stream_by reader) next.first
    ∙ bind_same (progress_in reader) (λ progress. parts_from progress (next.line ∷ rest)) (λ progress. (at_line next.line.number (line_taken progress (json_said next.line)) >>= λ later. parts_from later rest))
    (λ progress. ap (λ b. cond b (at_line next.line.number (line_taken progress (json_said next.line)) >>= λ later. parts_from later rest) (Ok (stream_at progress (next.line ∷ rest)))) next.part)
    ∙ sym (bound_twice (progress_in reader) (λ progress. at_line next.line.number (line_taken progress (json_said next.line))) (λ later. parts_from later rest))
    ∙ ap (λ (line : Line). progress_by reader line.number (λ progress. line_taken progress line.json) >>= λ later. parts_from later rest) (sym next.said)

pub part_taken : (before after : Reader) (part : FoundLine) (left rest : List TextLine) → IsNextPart part left rest → taken_by before part ≡ progress_in after → stream_by after rest ≡ stream_by before left
part_taken before after part left rest next steps =
    ap (λ (r : Result Progress LineFault). r >>= λ progress. parts_from progress rest) (sym steps) ∙ sym (part_by before part left rest next)

pub part_fails : (fault : ScriptFault) (reader : Reader) (part : FoundLine) (left rest : List TextLine) → IsNextPart part left rest → IsFault fault (taken_by reader part) → IsFault fault (stream_by reader left)
part_fails fault reader part left rest next fails =
    fault_along fault (stream_by reader left) (taken_by reader part >>= λ progress. parts_from progress rest) (part_by reader part left rest next)
    (fault_then fault (taken_by reader part) (λ progress. parts_from progress rest) fails)

-- ---- the notification lines

none_more : (progress : Progress) (lines : List TextLine) → begin_with_part lines ≡ false → Ok (stream_at progress lines) ≡ parts_from progress lines
none_more progress [] none = refl
none_more progress (line ∷ lines) none =
    sym (ap (λ b. cond b (at_line line.number (line_taken progress (json_said line)) >>= λ later. parts_from later lines) (Ok (stream_at progress (line ∷ lines)))) none)

pub parts_end : (reader : Reader) (left rest : List TextLine) → begin_with_part left ≡ false → rest ≡ left → stream_behind reader rest ≡ stream_by reader left
parts_end reader left rest none same =
    ap (stream_behind reader) same ∙ bind_same (progress_in reader) (λ progress. Ok (stream_at progress left)) (λ progress. parts_from progress left) (λ progress. none_more progress left none)

-- ---- the schema

pub schema_found : (reader : Reader) (lines : List TextLine) (nodes : List SchemaNode) → schema_in reader ≡ Ok nodes → stream_behind reader lines ≡ Ok (record { schema = nodes; lines = lines })
schema_found reader lines nodes is = ap (λ (r : Result (List SchemaNode) LineFault). (r >>= λ nodes. Ok (progress_with reader nodes)) >>= λ progress. Ok (stream_at progress lines)) is

pub schema_fails : (fault : ScriptFault) (reader : Reader) (lines : List TextLine) → IsFault fault (schema_in reader) → IsFault fault (stream_behind reader lines)
schema_fails fault reader lines fails =
    fault_then fault (progress_in reader) (λ progress. Ok (stream_at progress lines)) (fault_then fault (schema_in reader) (λ nodes. Ok (progress_with reader nodes)) fails)

-- ---- lines as they are found

part_known : (line : TextLine) (said : Said Data) → Some said ≡ part_said line → (is_part line ≡ true) × (said ≡ json_said line)
part_known line said is =
    elim (is_part line) as (λ b. is_part line ≡ b → Some said ≡ cond b (Some (json_said line)) None → (is_part line ≡ true) × (said ≡ json_said line)) [
      | true ↦ λ part same. (part, let e : said ≡ json_said line = cc in e)
      | false ↦ λ part same. cc
    ] refl is

none_known : (line : TextLine) → None ≡ part_said line → is_part line ≡ false
none_known line is =
    elim (is_part line) as (λ b. None ≡ cond b (Some (json_said line)) None → b ≡ false) [
      | true ↦ λ same. cc
      | false ↦ λ same. refl
    ] is

-- the next line is this part
pub finds_part : (found : FoundText) (json : Result Value ScriptKind) (before after : List TextLine) → before ≡ seen_text found ∷ after → Some (said_map view json) ≡ part_said (seen_text found)
    → IsNextPart (record { number = found.number; json = json }) before after
finds_part found json before after first part =
    let known = part_known (seen_text found) (said_map view json) part in
    record {
      line = seen_text found;
      first = first;
      part = known.0;
      said = ap (λ (said : Said Data). record { number = found.number; json = said }) known.1;
    }

-- the next line is none
pub finds_none : (found : FoundText) (before after : List TextLine) → before ≡ seen_text found ∷ after → None ≡ part_said (seen_text found) → begin_with_part before ≡ false
finds_none found before after first none = ap begin_with_part first ∙ none_known (seen_text found) none

pub finds_nothing : (before : List TextLine) → before ≡ [] → begin_with_part before ≡ false
finds_nothing before none = ap begin_with_part none
